-- What the end of a whole graph's run says of its sequential run.
use Rattle.std.proofs.Common.{◌≡◌, ℕ, List, [], ◌∷◌, Some, None, refl, sym, ap, ◌∙◌, subst, slice_index_or}
use Rattle.sd_work.specs.Memory.{Memory}
use Rattle.sd_work.specs.Move.{fault_at}
use Rattle.sd_work.specs.Change.{innermost}
use Rattle.sd_work.specs.Step.{Outcome, Done, Faulted, Spent}
use Rattle.sd_work.specs.Run.{Left, Run, Sequential}
use Rattle.sd_work.proofs.left_to_right.BigRuns.{big_run-sequential, sequential-big_run}
use Rattle.sd_work.proofs.ending.HaltingPools.{run-ends_with_pools}
use Rattle.sd_work.specs.BigStep.{Reached, Coming}
use Rattle.sd_work.specs.BigRun.{left_by, big_run}
use Rattle.sd_graph.specs.declared.place.Place.{Place}
use Rattle.sd_graph.specs.declared.place.Frame.{Frame}
use Rattle.sd_graph.specs.PlainTree.{GraphTree, graph}
use Rattle.sd_graph.specs.TreeParts.{containers_of}
use Rattle.sd_graph.specs.Context.{Reach, own_reach}
use Rattle.sd_graph.specs.Unfold.{run_of}
use Rattle.sd_graph.specs.Upwards.{LeadsUpwards}
use Rattle.sd_graph.proofs.UnfoldedOrder.{run_is_ordered, run_is_run}
use Rattle.sd_graph.proofs.UnfoldedNew.{run_unfolds_new}
use Rattle.sd_graph.proofs.UnfoldedCycles.{run_pays}
use Rattle.sd_graph.proofs.UnfoldedPools.{run_has_ordered_pools}
use Rattle.sd_mem.specs.machine.ComesTo.{ComesTo, outcome_of, IsEnd}
use Rattle.sd_mem.specs.machine.Coming.{graph_coming}
use Rattle.sd_scope.specs.scope.Standing.{opening_reach, reach_by}
use Rattle.sd_scope.specs.declared.scope.base.Base.{Base}
use Rattle.sd_mem.specs.declared.machine.end.End.{End}
use Rattle.sd_mem.specs.declared.machine.end.End.TheVariants.{Finished, Fault, OutOfTurns}

-- the outcome of the whole run that an end stands for
abbrev pub left_end : End → Reached → Outcome Place Left
left_end Finished now = Done (record { memory = innermost now.memories; turns = now.turns })
left_end (Fault place kind) now = Faulted (fault_at place kind)
left_end OutOfTurns now = Spent

by_end : (end : End) (after : Reached) → left_by (Some (outcome_of end after)) ≡ Some (left_end end after)
by_end Finished after = refl
by_end (Fault place kind) after = refl
by_end OutOfTurns after = refl

left_comes : (coming : Coming Place) (end : End) (after : Reached) (outcome : Outcome Place Left) → ComesTo coming (outcome_of end after) → left_by coming ≡ Some outcome → left_by coming ≡ Some (left_end end after)
left_comes None end after outcome comes is = cc
left_comes (Some came) end after outcome comes is = ap (λ (c : Outcome Place Reached). left_by (Some c)) comes ∙ by_end end after

-- a memory alone, with so many turns
abbrev pub alone : Memory → ℕ → Reached
alone memory turns = record { memories = memory ∷ []; turns = turns }

whole_is : (tree : GraphTree) (memory : Memory) (most turns : ℕ) → big_run (run_of tree memory) most turns ≡ left_by (graph_coming tree (own_reach (containers_of tree)) [] (alone memory turns) most)
whole_is (graph name containers arguments variables symbols states) memory most turns = refl

-- some bound is enough for a run to come to an end
ends : (tree : GraphTree) (memory : Memory) (turns : ℕ) → LeadsUpwards tree → (outcome : Outcome Place Left) × (most : ℕ) × (big_run (run_of tree memory) most turns ≡ Some outcome)
ends tree memory turns upwards =
    let run : (outcome : Outcome Place Left) × Run (run_of tree memory) turns [] outcome = run-ends_with_pools (run_of tree memory) turns [] (run_pays tree memory upwards) (run_unfolds_new tree memory) in
    let big : (most : ℕ) × (big_run (run_of tree memory) most turns ≡ Some run.0) = sequential-big_run (run_of tree memory) turns run.0 (run_is_ordered tree memory) (run_has_ordered_pools tree memory) (run_is_run tree memory) run.1 in
    (run.0, big.0, big.1)

-- the code's end of a whole run is the sequential outcome
whole_run : (tree : GraphTree) (memory : Memory) (turns : ℕ) (end : End) (after : Reached) → LeadsUpwards tree →
    IsEnd (graph_coming tree (own_reach (containers_of tree)) [] (alone memory turns)) (alone memory turns) end after →
    Sequential (run_of tree memory) turns (left_end end after)
whole_run tree memory turns end after upwards is =
    let some : (outcome : Outcome Place Left) × (most : ℕ) × (big_run (run_of tree memory) most turns ≡ Some outcome) = ends tree memory turns upwards in
    big_run-sequential (run_of tree memory) some.1 turns (left_end end after) (run_is_ordered tree memory) (run_has_ordered_pools tree memory) (whole_is tree memory some.1 turns
    ∙ left_comes (graph_coming tree (own_reach (containers_of tree)) [] (alone memory turns) some.1) end after some.0 (is.comes some.1) (sym (whole_is tree memory some.1 turns) ∙ some.2))

-- a run without arguments from outside reaches its own containers
own_opening : (tree : GraphTree) (base : Base) → base.ways ≡ [] → opening_reach (containers_of tree) base ≡ own_reach (containers_of tree)
own_opening tree base none = λ i number. reach_by 0 (containers_of tree) number (slice_index_or (none i) number None)

-- so it is from the code's begin
pub run_ends : (tree : GraphTree) (base : Base) (memory : Memory) (turns : ℕ) (before after : Reached) (end : End) → LeadsUpwards tree →
    base.ways ≡ [] → base.around ≡ [] → before.memories ≡ memory ∷ [] → before.turns ≡ turns →
    IsEnd (graph_coming tree (opening_reach (containers_of tree) base) base.around before) before end after →
    Sequential (run_of tree memory) turns (left_end end after)
run_ends tree base memory turns before after end upwards no_way nothing_round same_memories same_turns is =
    let begun : before ≡ alone memory turns = (λ i. record { memories = same_memories i; turns = same_turns i }) in
    whole_run tree memory turns end after upwards
    (subst (λ (now : Reached). IsEnd (graph_coming tree (own_reach (containers_of tree)) [] now) now end after) begun
    (subst (λ (reach : ℕ → Reach). IsEnd (graph_coming tree reach [] before) before end after) (own_opening tree base no_way)
    (subst (λ (around : List Frame). IsEnd (graph_coming tree (opening_reach (containers_of tree) base) around before) before end after) nothing_round is)))
