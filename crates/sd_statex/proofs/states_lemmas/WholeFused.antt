-- A whole run of a graph with two of its states fused ends as that of the old one.
use Rattle.std.proofs.Common.{◌≡◌, ℕ, suc, List, [], Option, Some, None, true, false, refl, sym, ◌∙◌, ap, subst}
use Rattle.sd_work.specs.Memory.{Memory}
use Rattle.sd_work.specs.Change.{innermost}
use Rattle.sd_work.specs.Step.{Outcome, Done, Faulted, Spent}
use Rattle.sd_work.specs.Run.{Left, Sequential}
use Rattle.sd_work.specs.BigStep.{Reached, Coming}
use Rattle.sd_work.specs.BigRun.{left_by, big_run}
use Rattle.sd_work.proofs.left_to_right.BigRuns.{big_run-sequential, sequential-big_run}
use Rattle.sd_graph.specs.PlainTree.{GraphTree, graph}
use Rattle.sd_graph.specs.TreeParts.{containers_of}
use Rattle.sd_graph.specs.Context.{Reach, own_reach}
use Rattle.sd_graph.specs.Unfold.{unfold_graph, run_of}
use Rattle.sd_graph.proofs.UnfoldedOrder.{run_is_ordered, run_is_run}
use Rattle.sd_graph.proofs.UnfoldedPools.{run_has_ordered_pools}
use Rattle.sd_graph.specs.declared.place.Frame.{Frame}
use Rattle.sd_alike.specs.alike.Lift.{as_it_is, reach_in}
use Rattle.sd_alike.specs.alike.SameWork.{done_of}
use Rattle.sd_alike.specs.alike.Alike.{NamesItsVariables}
use Rattle.sd_alike.specs.alike.Rewritten.{RunsSame}
use Rattle.sd_alike.proofs.alike_lemmas.SamePlaces.{run_step, graph_run}
use Rattle.sd_statex.specs.states.FusedStates.{graph_fused, AreStatesFusible}
use Rattle.sd_statex.specs.states.ChangedGraphs.{graph_changed, GraphHas}
use Rattle.sd_statex.specs.states.Reaching.{Reaches, AtMost, twice}
use Rattle.sd_statex.proofs.states_lemmas.More.{at_most_same, at_most_next, at_most_twice}
use Rattle.sd_statex.proofs.states_lemmas.FusedTrees.{run_reaches, run_reaches_back}
use Rattle.sd_statex.proofs.states_lemmas.ChangedTrees.{RunFollows, IsFollowed, containers_stay, graph_follows}

abbrev left_of : Reached → Left
left_of now = record { memory = innermost now.memories; turns = now.turns }

abbrev done_left : {P : Type 0} → Option (Outcome P Left) → Option Left
done_left (Some (Done left)) = Some left
done_left (Some (Faulted fault)) = None
done_left (Some Spent) = None
done_left None = None

same_some : {A : Type 0} (x y : A) → Some x ≡ Some y → x ≡ y
same_some x y is = cc

-- what a run that is done leaves
done_leaves : {P : Type 0} (coming : Coming P) (now : Reached) → done_of coming ≡ Some now → left_by coming ≡ Some (Done (left_of now))
done_leaves (Some (Done now')) now is = ap (λ now. Some (Done (left_of now))) (same_some now' now is)
done_leaves (Some (Faulted fault)) now is = cc
done_leaves (Some Spent) now is = cc
done_leaves None now is = cc

left_reaches : {P Q : Type 0} (coming : Coming P) (other : Coming Q) (left : Left) → Reaches coming other → left_by coming ≡ Some (Done left) → left_by other ≡ Some (Done left)
left_reaches (Some (Done now)) other left reaches is = done_leaves other now (reaches now refl) ∙ ap (λ left. Some (Done left)) (same_some (left_of now) left (ap done_left is))
left_reaches (Some (Faulted fault)) other left reaches is = cc
left_reaches (Some Spent) other left reaches is = cc
left_reaches None other left reaches is = cc

-- where each run of one that is done, with so many transitions, is done by the other with more
runs_to : (tree other : GraphTree) → containers_of other ≡ containers_of tree → (memory : Memory) (turns : ℕ) (left : Left) →
    ((most : ℕ) → (more : ℕ) × Reaches (run_step (unfold_graph tree (own_reach (containers_of tree)) memory []) most [] turns) (run_step (unfold_graph other (own_reach (containers_of tree)) memory []) more [] turns)) →
    Sequential (run_of tree memory) turns (Done left) → Sequential (run_of other memory) turns (Done left)
runs_to tree other same memory turns left reaches sequential =
    let big : (most : ℕ) × (big_run (run_of tree memory) most turns ≡ Some (Done left)) =
    sequential-big_run (run_of tree memory) turns (Done left) (run_is_ordered tree memory) (run_has_ordered_pools tree memory) (run_is_run tree memory) sequential in
    let reach : ℕ → Reach = own_reach (containers_of tree) in
    let there = reaches big.0 in
    let done : left_by (run_step (unfold_graph other reach memory []) there.0 [] turns) ≡ Some (Done left) =
    left_reaches (run_step (unfold_graph tree reach memory []) big.0 [] turns) (run_step (unfold_graph other reach memory []) there.0 [] turns) left there.1 (sym (graph_run tree reach memory [] big.0 turns) ∙ big.1) in
    big_run-sequential (run_of other memory) there.0 turns (Done left) (run_is_ordered other memory) (run_has_ordered_pools other memory)
    (subst (λ containers. big_run (unfold_graph other (own_reach containers) memory []) there.0 turns ≡ Some (Done left)) (sym same) (graph_run other reach memory [] there.0 turns ∙ done))

module _ (first second : ℕ) where
  fused_kept : (tree : GraphTree) → containers_of (graph_fused first second tree) ≡ containers_of tree
  fused_kept (graph name containers arguments variables symbols states) = refl

  ahead : (most : ℕ) → IsFollowed true most most (AreStatesFusible first second) (graph_fused first second)
  ahead most = record {
    kept = fused_kept;
    runs = runs;
  }
    where
      runs : (tree : GraphTree) (reach other : ℕ → Reach) (own : Memory) (around other_around : List Frame) → AreStatesFusible first second tree → NamesItsVariables tree → ((number : ℕ) → other number ≡ reach_in as_it_is (reach number)) →
          RunFollows true most most (unfold_graph tree reach own around) (unfold_graph (graph_fused first second tree) other own other_around)
      runs (graph name containers arguments variables symbols states) reach other own around other_around fusible below reaches =
          run_reaches first second name containers arguments variables symbols states fusible below reach other own around other_around reaches most most (at_most_same most)

  enough : (most : ℕ) → AtMost most (suc (twice most))
  enough most = at_most_next most (twice most) (at_most_twice most)

  behind : (most : ℕ) → IsFollowed false most (suc (twice most)) (AreStatesFusible first second) (graph_fused first second)
  behind most = record {
    kept = fused_kept;
    runs = runs;
  }
    where
      runs : (tree : GraphTree) (reach other : ℕ → Reach) (own : Memory) (around other_around : List Frame) → AreStatesFusible first second tree → NamesItsVariables tree → ((number : ℕ) → other number ≡ reach_in as_it_is (reach number)) →
          RunFollows false most (suc (twice most)) (unfold_graph tree reach own around) (unfold_graph (graph_fused first second tree) other own other_around)
      runs (graph name containers arguments variables symbols states) reach other own around other_around fusible below reaches =
          run_reaches_back first second name containers arguments variables symbols states fusible below reach other own around other_around reaches most (suc (twice most)) (enough most) (at_most_same (suc (twice most)))

  pub fused_runs_same : (tree : GraphTree) (path : List ℕ) → GraphHas (AreStatesFusible first second) tree path → NamesItsVariables tree → RunsSame tree (graph_changed (graph_fused first second) tree path)
  fused_runs_same tree path has below memory turns left =
      let after : GraphTree = graph_changed (graph_fused first second) tree path in
      let stay : containers_of after ≡ containers_of tree = containers_stay true 0 0 (at_most_same 0) (AreStatesFusible first second) (graph_fused first second) (ahead 0) tree path in
      let reach : ℕ → Reach = own_reach (containers_of tree) in (
        runs_to tree after stay memory turns left (λ most. (
          most,
          graph_follows true most most (at_most_same most) (AreStatesFusible first second) (graph_fused first second) (ahead most) tree path reach reach memory [] [] has below (λ number. refl) [] turns,
        )),
        runs_to after tree (sym stay) memory turns left (λ most. (
          suc (twice most),
          subst (λ containers. Reaches (run_step (unfold_graph after (own_reach containers) memory []) most [] turns) (run_step (unfold_graph tree (own_reach containers) memory []) (suc (twice most)) [] turns)) (sym stay)
              (graph_follows false most (suc (twice most)) (enough most) (AreStatesFusible first second) (graph_fused first second) (behind most) tree path reach reach memory [] [] has below (λ number. refl) [] turns),
        )),
      )
