-- A move inside a point, an element or a run is one of it.
use Rattle.std.proofs.Common.{◌≡◌, ℕ, ℤ, List, Bool, false, sym, ap, ap₂, ◌∙◌, subst}
use Rattle.sd_work.specs.Memory.{Memory, Memories}
use Rattle.sd_work.specs.Move.{Move}
use Rattle.sd_work.specs.Residual.{Term, owning, nested, finished}
use Rattle.sd_work.specs.Moves.{Path}
use Rattle.sd_work.specs.Fire.{fire}
use Rattle.sd_work.specs.BigStep.{Reached}
use Rattle.sd_graph.specs.PlainTree.{KindTree, GraphTree}
use Rattle.sd_graph.specs.TreeParts.{states_of_graph, items_at}
use Rattle.sd_graph.specs.Context.{Reach, Context}
use Rattle.sd_graph.specs.declared.place.Frame.{Frame}
use Rattle.sd_graph.specs.declared.place.Place.{Place}
use Rattle.sd_mem.specs.machine.Coming.{state_term, exits_of, state_context}
use Rattle.sd_mem.specs.declared.machine.end.End.{End}
use Rattle.sd_leaves.specs.moves.Moved.{IsMoved}
use Rattle.sd_left.specs.tree.Standing.{BodyLeft, RunLeft, body_of, point_inside, element_inside, value_at, body_left, point_left, element_left, state_left, run_going, run_left}
use Rattle.sd_left.proofs.tree_lemmas.Runs.{state-moves}
use Rattle.sd_left.specs.fired.Fired.{IsFired, IsBodyFired}
use Rattle.sd_left.proofs.fired_lemmas.Comes.{owned-moved}

pub inside-point : (old new : BodyLeft) (kind : KindTree) (context : Context) (path : Path) (before after : Reached) (end : End)
    → IsBodyFired old (body_of kind) (point_inside kind context old.at) path before end after new
    → IsFired (point_left old kind context) path before end after (point_left new kind context)
inside-point old new kind context path before after end fired =
    subst (λ (numbers : List ℤ). IsFired (point_left old kind context) path before end after (owning new.own (body_left new (body_of kind) (point_inside kind context numbers)))) (sym fired.at)
    (owned-moved owning old.own new.own (λ (memories : Memories). fire (body_left old (body_of kind) (point_inside kind context old.at)) path memories)
    (body_left old (body_of kind) (point_inside kind context old.at)) (body_left new (body_of kind) (point_inside kind context old.at)) before fired.inside fired.behind after end fired.entered fired.left fired.fired)

pub inside-element : (old new : BodyLeft) (kind : KindTree) (context : Context) (path : Path) (before after : Reached) (end : End)
    → IsBodyFired old (body_of kind) (element_inside kind context (value_at old.at)) path before end after new
    → IsFired (element_left old kind context) path before end after (element_left new kind context)
inside-element old new kind context path before after end fired =
    subst (λ (numbers : List ℤ). IsFired (element_left old kind context) path before end after (owning new.own (body_left new (body_of kind) (element_inside kind context (value_at numbers))))) (sym fired.at)
    (owned-moved owning old.own new.own (λ (memories : Memories). fire (body_left old (body_of kind) (element_inside kind context (value_at old.at))) path memories)
    (body_left old (body_of kind) (element_inside kind context (value_at old.at))) (body_left new (body_of kind) (element_inside kind context (value_at old.at))) before fired.inside fired.behind after end fired.entered fired.left fired.fired)

-- ---- runs

module _ (old new : RunLeft) (tree : GraphTree) (reach : ℕ → Reach) (around : List Frame) where
  abbrev run_of_state : (state : ℕ) → (values : List ℤ) → Memory → Term Place → Term Place
  run_of_state state values own left = nested (state_term tree reach around) (exits_of tree reach around) own state values left

  -- what a body is in a state with these values
  abbrev in_state : BodyLeft → (state : ℕ) → (values : List ℤ) → Term Place
  in_state body state values = body_left body (items_at (states_of_graph tree) state) (state_context tree reach around state values)

  going-on : (run : RunLeft) → run.ended ≡ false → run_left run tree reach around ≡ run_of_state run.state run.body.at run.body.own (state_left run tree reach around)
  going-on run going = ap (λ (b : Bool). run_going b run tree reach around) going

  pub inside-run : (path : Path) (before after : Reached) (end : End)
      → old.ended ≡ false → finished (state_left old tree reach around) ≡ false → new.ended ≡ false → new.state ≡ old.state
      → IsBodyFired old.body (items_at (states_of_graph tree) old.state) (state_context tree reach around old.state old.body.at) path before end after new.body
      → IsFired (run_left old tree reach around) path before end after (run_left new tree reach around)
  inside-run path before after end going unfinished goes_on same_state fired =
      let behind : Term Place = run_of_state old.state old.body.at new.body.own (in_state new.body old.state old.body.at) in
      let is_new : behind ≡ run_of_state new.state new.body.at new.body.own (in_state new.body new.state new.body.at) =
      ap₂ (λ (state : ℕ) (values : List ℤ). run_of_state state values new.body.own (in_state new.body state values)) (sym same_state) (sym fired.at) in
      subst (λ (work : Term Place). IsFired (run_left old tree reach around) path before end after work) (is_new ∙ sym (going-on new goes_on))
      (subst (λ (work : Term Place). IsMoved (fire (run_left old tree reach around) path before.memories) work before end after behind) (sym (going-on old going))
      (subst (λ (move : Move Place (Term Place)). IsMoved move (run_of_state old.state old.body.at old.body.own (state_left old tree reach around)) before end after behind)
      (sym (state-moves old tree reach around path before.memories going unfinished))
      (owned-moved (run_of_state old.state old.body.at) old.body.own new.body.own (λ (memories : Memories). fire (state_left old tree reach around) path memories)
      (state_left old tree reach around) (in_state new.body old.state old.body.at) before fired.inside fired.behind after end fired.entered fired.left fired.fired)))
