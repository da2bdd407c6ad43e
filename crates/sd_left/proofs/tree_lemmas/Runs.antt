-- The moves of a run that goes on.
use Rattle.std.proofs.Common.{◌≡◌, ℕ, List, ◌∷◌, Bool, true, false, cond, ap, ◌∙◌}
use Rattle.sd_work.specs.Memory.{Memories}
use Rattle.sd_work.specs.Exit.{first_exit}
use Rattle.sd_work.specs.Move.{Move}
use Rattle.sd_work.specs.Residual.{Term, nested, finished}
use Rattle.sd_work.specs.Moves.{Path}
use Rattle.sd_work.specs.Fire.{fire, owned, transition}
use Rattle.sd_graph.specs.PlainTree.{GraphTree}
use Rattle.sd_graph.specs.Context.{Reach}
use Rattle.sd_graph.specs.declared.place.Frame.{Frame}
use Rattle.sd_graph.specs.declared.place.Place.{Place}
use Rattle.sd_mem.specs.machine.Coming.{state_term, exits_of}
use Rattle.sd_left.specs.tree.Standing.{RunLeft, state_left, run_going, run_left}

module _ (run : RunLeft) (tree : GraphTree) (reach : ℕ → Reach) (around : List Frame) (path : Path) (memories : Memories) where
  abbrev going_on : Move Place (Term Place)
  going_on = transition (state_term tree reach around) (exits_of tree reach around) run.body.own (first_exit (exits_of tree reach around run.state run.body.at) (run.body.own ∷ memories))

  abbrev in_state : Move Place (Term Place)
  in_state = owned (λ own left. nested (state_term tree reach around) (exits_of tree reach around) own run.state run.body.at left) run.body.own (fire (state_left run tree reach around) path (run.body.own ∷ memories))

  by-state : run.ended ≡ false → fire (run_left run tree reach around) path memories ≡ cond (finished (state_left run tree reach around)) going_on in_state
  by-state going = ap (λ (b : Bool). fire (run_going b run tree reach around) path memories) going

  pub state-moves : run.ended ≡ false → finished (state_left run tree reach around) ≡ false → fire (run_left run tree reach around) path memories ≡ in_state
  state-moves going unfinished = by-state going ∙ ap (λ (b : Bool). cond b going_on in_state) unfinished

  pub run-goes-on : run.ended ≡ false → finished (state_left run tree reach around) ≡ true → fire (run_left run tree reach around) path memories ≡ going_on
  run-goes-on going over = by-state going ∙ ap (λ (b : Bool). cond b going_on in_state) over
