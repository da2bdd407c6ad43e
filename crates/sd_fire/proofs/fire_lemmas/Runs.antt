-- Runs of graphs of which the state moves, and those that stay.
use Rattle.std.proofs.Common.{◌≡◌, ℕ, List, Bool, true, false, not, sym, ap, ◌∙◌, subst}
use Rattle.sd_work.specs.Residual.{finished}
use Rattle.sd_work.specs.Moves.{Path}
use Rattle.sd_work.specs.BigStep.{Reached}
use Rattle.sd_graph.specs.PlainTree.{GraphTree}
use Rattle.sd_graph.specs.TreeParts.{states_of_graph, items_at}
use Rattle.sd_graph.specs.Context.{Reach}
use Rattle.sd_graph.specs.declared.place.Frame.{Frame}
use Rattle.sd_mem.specs.machine.Coming.{state_context}
use Rattle.sd_mem.specs.declared.machine.end.End.{End}
use Rattle.sd_left.specs.tree.Standing.{RunLeft, state_left}
use Rattle.sd_left.specs.declared.left.left.Left.{Left as LeftNow}
use Rattle.sd_left.specs.declared.left.left.Bodies.{Bodies as BodiesNow}
use Rattle.sd_left.specs.declared.left.left.Body.{Body as BodyNow}
use Rattle.sd_left.specs.declared.left.left.Left.TheOpen.{Run-F}
use Rattle.sd_left.specs.declared.left.left.Left.TheViews.{out-Run, roll-Run, out-roll-Run}
use Rattle.sd_left.specs.declared.left.left.Run.{Run as RunNow}
use Rattle.sd_left.specs.left.Kept.{body_kept, run_kept}
use Rattle.sd_left.specs.left.Telling.{Telling}
use Rattle.sd_left.specs.left.Tells.{body_tells, run_tells}
use Rattle.sd_left.proofs.left_lemmas.Rolls.{run_opened}
use Rattle.sd_left.proofs.left_lemmas.TellRolls.{run_told}
use Rattle.sd_left.proofs.left_lemmas.Showing.{body-shows-all}
use Rattle.sd_left.specs.fired.Fired.{IsBodyFired}
use Rattle.sd_left.proofs.fired_lemmas.Owners.{inside-run}
use Rattle.sd_fire.specs.advance.Right.{AreItemsFired, IsRunFired}
use Rattle.sd_fire.proofs.advance_lemmas.Runs.{run_rolled}

pub run_right : (run : RunNow) → (run_tells run).is_right ≡ (body_tells (out-Run run).body).is_right
run_right run = ap (λ (t : Telling). t.is_right) (run_told run)

pub run_over : (run : RunNow) (over : Bool) → (out-Run run).ended ≡ over → (run_kept run).ended ≡ over
run_over run over is = ap (λ (r : RunLeft). r.ended) (run_opened run) ∙ is

module _ (run : RunNow) (tree : GraphTree) (reach : ℕ → Reach) (around : List Frame) (path : Path) where
  -- whether its state is finished, by the counts of its items
  pub state_over : (run_tells run).is_right ≡ true → (over : Bool) → over ≡ not (body_tells (out-Run run).body).is_unfinished → finished (state_left (run_kept run) tree reach around) ≡ over
  state_over right over is =
      ap (λ (r : RunLeft). finished (state_left r tree reach around)) (run_opened run)
      ∙ (body-shows-all (out-Run run).body (sym (run_right run) ∙ right)).over (items_at (states_of_graph tree) (out-Run run).state) (state_context tree reach around (out-Run run).state (body_kept (out-Run run).body).at)
      ∙ sym is

  -- a run whose items move
  pub run_moves : (x : Run-F LeftNow BodiesNow BodyNow RunNow) (before after : Reached) (end : End)
      → x.state ≡ (out-Run run).state → x.ended ≡ (out-Run run).ended
      → (out-Run run).ended ≡ false → finished (state_left (run_kept run) tree reach around) ≡ false → (run_tells run).is_right ≡ true
      → ((body_tells (out-Run run).body).is_right ≡ true → AreItemsFired (out-Run run).body (items_at (states_of_graph tree) (out-Run run).state) (state_context tree reach around (out-Run run).state (body_kept (out-Run run).body).at) path before end after x.body)
      → IsRunFired run tree reach around path before end after (roll-Run x)
  run_moves x before after end same_state same_end going unfinished right fires =
      let moved = fires (sym (run_right run) ∙ right) in
      let kept : run_kept (roll-Run x) ≡ record { state = x.state; ended = x.ended; body = body_kept x.body } = run_rolled x in
      record {
        fired = inside-run (run_kept run) (run_kept (roll-Run x)) tree reach around path before after end
            (run_over run false going) unfinished
            (ap (λ (r : RunLeft). r.ended) kept ∙ same_end ∙ going)
            (ap (λ (r : RunLeft). r.state) kept ∙ same_state ∙ sym (ap (λ (r : RunLeft). r.state) (run_opened run)))
            (subst (λ (r : RunLeft). IsBodyFired r.body (items_at (states_of_graph tree) r.state) (state_context tree reach around r.state r.body.at) path before end after (run_kept (roll-Run x)).body) (sym (run_opened run))
            (subst (λ (r : RunLeft). IsBodyFired (body_kept (out-Run run).body) (items_at (states_of_graph tree) (out-Run run).state) (state_context tree reach around (out-Run run).state (body_kept (out-Run run).body).at) path before end after r.body) (sym kept) moved.fired));
        right = run_right (roll-Run x) ∙ ap (λ (y : Run-F LeftNow BodiesNow BodyNow RunNow). (body_tells y.body).is_right) (out-roll-Run x) ∙ moved.right;
      }

-- a run of an item's graph
