-- The machine that the code keeps, behind a step.
use Rattle.std.proofs.Common.{◌≡◌, ◌<◌, ◌%◌, ℕ, List, [], ◌∷◌, length, true, Option, None, Some, refl, sym, ap, ap₂, ◌∙◌, subst, arith}
use Rattle.sd_work.specs.declared.fault.FaultKind.{FaultKind}
use Rattle.sd_work.specs.Memory.{Memories}
use Rattle.sd_work.specs.Residual.{Term, finished}
use Rattle.sd_work.specs.Moves.{Path}
use Rattle.sd_work.specs.Fire.{fire}
use Rattle.sd_work.specs.Settle.{settle, settled}
use Rattle.sd_work.specs.Step.{Machine, Outcome, Done, next_moves, step}
use Rattle.sd_work.specs.BigStep.{Reached}
use Rattle.sd_work.specs.WellFormed.{IsWellFormed}
use Rattle.sd_work.proofs.Finished.{moves-finished}
use Rattle.sd_work.proofs.going.Machines.{machine-finished, well_formed-step}
use Rattle.sd_moves.specs.numbered.Places.{place_of}
use Rattle.sd_moves.specs.numbered.Gone.{gone, map_outcome, settled_machine}
use Rattle.sd_moves.proofs.numbered_lemmas.Counted.{counted}
use Rattle.sd_moves.proofs.numbered_lemmas.Comes.{step-gone}
use Rattle.sd_graph.specs.PlainTree.{GraphTree}
use Rattle.sd_graph.specs.TreeFold.{graph_tree}
use Rattle.sd_graph.specs.TreeParts.{containers_of}
use Rattle.sd_graph.specs.Context.{Reach}
use Rattle.sd_graph.specs.declared.place.Frame.{Frame}
use Rattle.sd_graph.specs.declared.place.Place.{Place}
use Rattle.sd_mem.specs.declared.machine.end.End.{End}
use Rattle.sd_mem.specs.declared.machine.end.End.TheVariants as ends
use Rattle.sd_scope.specs.scope.Standing.{opening_reach}
use Rattle.sd_leaves.specs.moves.Moved.{outcome_with}
use Rattle.sd_left.specs.fired.Fired.{IsFired}
use Rattle.sd_left.specs.tree.Standing.{run_left}
use Rattle.sd_left.specs.declared.left.left.Run.{Run}
use Rattle.sd_left.specs.left.Kept.{run_kept}
use Rattle.sd_left.specs.left.Waits.{is_run_counted}
use Rattle.sd_left.specs.left.Tells.{run_tells}
use Rattle.sd_left.proofs.left_lemmas.Showing.{run-shows-all}
use Rattle.sd_fire.specs.advance.Right.{IsRunFired}
use Rattle.sd_core.specs.declared.stepped.Stepped.TheVariants as answers
use Rattle.sd_core.specs.Kept.{Kept, machine_of, term_of, IsRunKept, IsKeptBy, IsSound}
use Rattle.sd_core.specs.Released.{IsReleased, same}
use Rattle.sd_core.specs.release.Changed.{IsRunReleased}
use Rattle.sd_core.specs.Stepped.{place_by, IsStepped}
use Rattle.sd_core.proofs.Machines.{with_turns, picked-below, picked-place}
use Rattle.sd_core.proofs.released_lemmas.Runs.{formed-released}

-- ---- next moves

no-path : {A : Type 0} (all : List A) → length all ≡ 0 → all ≡ []
no-path [] none = refl
no-path (first ∷ all) none = absurd (omega (arith, none))

-- a machine in order has no next move exactly where it is finished
pub none-left : (machine : Machine Place) (moves : ℕ) → IsWellFormed machine → moves ≡ length (next_moves machine) → (moves ≡ 0 → finished machine.term ≡ true) × (finished machine.term ≡ true → moves ≡ 0)
none-left machine moves formed are = (
  (λ none. machine-finished machine formed (no-path (next_moves machine) (sym are ∙ none))),
  (λ over. are ∙ ap length (moves-finished machine.term [] over)),
)

-- a machine that keeps no run has no next move
pub nothing-next : (new : Kept) → new.run ≡ None → next_moves (machine_of new) ≡ []
nothing-next new none = ap (λ (kept : Option Run). next_moves (with_turns new.stack.turns (term_of (graph_tree new.graph) new.base kept new.stack))) none

-- ---- a run that is kept

module _ (old : Kept) (run : Run) (is : old.run ≡ Some run) (sound : IsSound old) where
  kept-run : IsRunKept run old.stack
  kept-run = subst (λ (kept : Option Run). IsKeptBy kept old.stack) is sound.run

  pub told-moves : (run_tells run).moves ≡ length (next_moves (machine_of old))
  told-moves =
      let reach = opening_reach (containers_of (graph_tree old.graph)) old.base in
      sym ((run-shows-all run kept-run.right).moves (graph_tree old.graph) reach old.base.around [] kept-run.counted)
      ∙ sym (counted (run_left (run_kept run) (graph_tree old.graph) reach old.base.around) [])
      ∙ ap (λ (kept : Option Run). length (next_moves (with_turns old.stack.turns (term_of (graph_tree old.graph) old.base kept old.stack)))) (sym is)

module _ (old : Kept) (run : Run) (is : old.run ≡ Some run) (sound : IsSound old) where
  abbrev tree : GraphTree
  tree = graph_tree old.graph

  abbrev reach : ℕ → Reach
  reach = opening_reach (containers_of tree) old.base

  abbrev work_of : Run → Term Place
  work_of left = run_left (run_kept left) tree reach old.base.around

  abbrev before : Machine Place
  before = with_turns old.stack.turns (work_of run)

  machine-is : machine_of old ≡ before
  machine-is = ap (λ (kept : Option Run). with_turns old.stack.turns (term_of tree old.base kept old.stack)) is

  kept-is : IsRunKept run old.stack
  kept-is = kept-run old run is sound

  module _ (pick moves : ℕ) (some : 0 < length (next_moves (machine_of old))) (are : moves ≡ length (next_moves (machine_of old))) (path : Path)
      (found : (tree : GraphTree) (reach : ℕ → Reach) (around : List Frame) (memories : Memories) → (run_tells run).is_right ≡ true → is_run_counted run memories ≡ true → pick % moves < (run_tells run).moves
      → path ≡ place_of (run_left (run_kept run) tree reach around) memories (pick % moves))
      (end : End) (after : Reached) (moved : Run) (fires : (run_tells run).is_right ≡ true → IsRunFired run tree reach old.base.around path old.stack end after moved) where
    some-before : 0 < length (next_moves before)
    some-before = subst (λ (machine : Machine Place). 0 < length (next_moves machine)) machine-is some

    are-before : moves ≡ length (next_moves before)
    are-before = are ∙ ap (λ (machine : Machine Place). length (next_moves machine)) machine-is

    below : pick % moves < (run_tells run).moves
    below = subst (λ (n : ℕ). pick % n < (run_tells run).moves) (sym are-before)
        (subst (λ (n : ℕ). pick % length (next_moves before) < n) (sym (counted (work_of run) []) ∙ ap (λ (machine : Machine Place). length (next_moves machine)) (sym machine-is) ∙ sym (told-moves old run is sound)) (picked-below before pick some-before))

    path-is : path ≡ place_by pick before
    path-is = found tree reach old.base.around [] kept-is.right kept-is.counted below ∙ picked-place before pick moves some-before are-before

    fired : IsFired (work_of run) path old.stack end after (work_of moved)
    fired = (fires kept-is.right).fired

    comes-before : step path before ≡ map_outcome settled_machine (outcome_with end after (work_of moved))
    comes-before =
        step-gone before path ((subst IsWellFormed machine-is sound.formed).settles)
        ∙ ap (map_outcome settled_machine) (ap (λ (memories : Memories). gone (fire (work_of run) path memories) (work_of run) memories old.stack.turns) (sym kept-is.memories) ∙ fired.comes)

    comes : step (place_by pick (machine_of old)) (machine_of old) ≡ map_outcome settled_machine (outcome_with end after (work_of moved))
    comes =
        ap (λ (machine : Machine Place). step (place_by pick machine) machine) machine-is ∙ ap (λ (place : Path). step place before) (sym path-is) ∙ comes-before

    pub faults : (new : Kept) (place : Place) (kind : FaultKind) → end ≡ ends.Fault place kind → new.run ≡ None → IsStepped (machine_of old) pick (answers.Fault place kind) (machine_of new)
    faults new place kind so none = record {
      comes = comes ∙ ap (λ (e : End). map_outcome settled_machine (outcome_with e after (work_of moved))) so;
      next = ap length (nothing-next new none);
    }

    pub spends : (new : Kept) → end ≡ ends.OutOfTurns → new.run ≡ None → IsStepped (machine_of old) pick answers.Spent (machine_of new)
    spends new so none = record {
      comes = comes ∙ ap (λ (e : End). map_outcome settled_machine (outcome_with e after (work_of moved))) so;
      next = ap length (nothing-next new none);
    }

    -- ---- what is left is settled

    module _ (left : Run) (now : Reached) (so : end ≡ ends.Finished)
        (settles : (tree : GraphTree) (reach : ℕ → Reach) (around : List Frame) → (run_tells moved).is_right ≡ true → run_left (run_kept left) tree reach around ≡ settle true [] after.memories (run_left (run_kept moved) tree reach around))
        (counts : (run_tells moved).is_right ≡ true → is_run_counted left after.memories ≡ true) (stays_right : (run_tells moved).is_right ≡ true → (run_tells left).is_right ≡ true) (stays : now ≡ after) where
      abbrev new : Kept
      new = record { graph = old.graph; base = old.base; run = Some left; stack = now }

      right : (run_tells moved).is_right ≡ true
      right = (fires kept-is.right).right

      nowhere : after.memories ≡ []
      nowhere = no-path after.memories (fired.depth ∙ ap length kept-is.memories)

      left-is : work_of left ≡ settled (work_of moved)
      left-is = settles tree reach old.base.around right ∙ ap (λ (memories : Memories). settle true [] memories (work_of moved)) nowhere

      goes : step (place_by pick (machine_of old)) (machine_of old) ≡ Done (machine_of new)
      goes =
          comes ∙ ap (λ (e : End). map_outcome settled_machine (outcome_with e after (work_of moved))) so
          ∙ ap₂ (λ (turns : ℕ) (term : Term Place). done (with_turns turns term)) (ap (λ (r : Reached). r.turns) (sym stays)) (sym left-is)
        where
          done : Machine Place → Outcome Place (Machine Place)
          done machine = Done machine

      pub sound-behind : IsSound new
      sound-behind = record {
        run = record {
          right = stays_right right;
          counted = subst (λ (memories : Memories). is_run_counted left memories ≡ true) nowhere (counts right);
          memories = ap (λ (r : Reached). r.memories) stays ∙ nowhere;
        };
        formed = well_formed-step (machine_of old) (machine_of new) (place_by pick (machine_of old)) sound.formed goes;
      }

      moves-behind : (run_tells left).moves ≡ length (next_moves (machine_of new))
      moves-behind = told-moves new left refl sound-behind

      pub ends-done : (count : ℕ) → count ≡ (run_tells left).moves → count ≡ 0 → IsStepped (machine_of old) pick answers.Done (machine_of new)
      ends-done count counted none = record { comes = goes; next = sym moves-behind ∙ sym counted ∙ none }

      pub goes-on : (count : ℕ) → count ≡ (run_tells left).moves → 0 < count → IsStepped (machine_of old) pick answers.Moved (machine_of new)
      goes-on count counted more = record { comes = goes; next = subst (λ (n : ℕ). 0 < n) (counted ∙ moves-behind) more }

-- ---- what was let go

module _ (old : Kept) (run left : Run) (is : old.run ≡ Some run) (sound : IsSound old) (releases : (run_tells run).is_right ≡ true → IsRunReleased run left) where
  abbrev after_it : Kept
  after_it = record { graph = old.graph; base = old.base; run = Some left; stack = old.stack }

  pub term-released : IsReleased (machine_of old).term (machine_of after_it).term
  term-released =
      let tree = graph_tree old.graph in
      subst (λ (kept : Option Run). IsReleased (term_of tree old.base kept old.stack) (term_of tree old.base (Some left) old.stack)) (sym is)
      ((releases (kept-run old run is sound).right).released tree (opening_reach (containers_of tree) old.base) old.base.around)

  pub sound-released : IsSound after_it
  sound-released =
      let kept = kept-run old run is sound in
      let done = releases kept.right in
      record {
        run = record { right = done.right; counted = done.counted [] kept.counted; memories = kept.memories };
        formed = formed-released (machine_of old) (machine_of after_it) term-released sound.formed;
      }

-- a machine that keeps no run has nothing to let go
pub nothing-released : (old new : Kept) → old.run ≡ None → new.run ≡ None → old.stack ≡ new.stack → IsReleased (machine_of old).term (machine_of new).term
nothing-released old new none none_too stack =
    subst (λ (kept : Option Run). IsReleased (term_of (graph_tree old.graph) old.base kept old.stack) (machine_of new).term) (sym none)
    (subst (λ (kept : Option Run). IsReleased (term_of (graph_tree old.graph) old.base None old.stack) (term_of (graph_tree new.graph) new.base kept new.stack)) (sym none_too)
    (subst (λ (now : Reached). IsReleased (term_of (graph_tree old.graph) old.base None old.stack) (term_of (graph_tree new.graph) new.base None now)) stack same))
