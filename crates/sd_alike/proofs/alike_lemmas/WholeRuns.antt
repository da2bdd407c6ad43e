-- A whole run of a rewritten graph ends as that of the old one.
use Rattle.std.proofs.Common.{◌≡◌, ℕ, List, [], Option, Some, None, option_map, refl, sym, ◌∙◌, ap, subst}
use Rattle.sd_work.specs.Memory.{Memory}
use Rattle.sd_work.specs.Change.{innermost}
use Rattle.sd_work.specs.Step.{Outcome, Done, Faulted, Spent}
use Rattle.sd_work.specs.Run.{Left, Sequential}
use Rattle.sd_work.specs.BigStep.{Reached, Coming}
use Rattle.sd_work.specs.BigRun.{left_by, big_run}
use Rattle.sd_work.proofs.left_to_right.BigRuns.{big_run-sequential, sequential-big_run}
use Rattle.sd_graph.specs.PlainTree.{KindTree, GraphTree}
use Rattle.sd_graph.specs.TreeParts.{containers_of}
use Rattle.sd_graph.specs.Context.{Reach, own_reach}
use Rattle.sd_graph.specs.Unfold.{unfold_graph, run_of}
use Rattle.sd_graph.proofs.UnfoldedOrder.{run_is_ordered, run_is_run}
use Rattle.sd_graph.proofs.UnfoldedPools.{run_has_ordered_pools}
use Rattle.sd_alike.specs.alike.Lift.{as_it_is}
use Rattle.sd_alike.specs.alike.SameWork.{done_of, reached_in, EndsSame}
use Rattle.sd_alike.specs.alike.Alike.{NamesItsVariables}
use Rattle.sd_alike.specs.alike.Places.{Replacing, graph_with, GraphLeads}
use Rattle.sd_alike.specs.alike.Rewritten.{ReplacesSame, RunsSame}
use Rattle.sd_alike.proofs.alike_lemmas.SamePlaces.{run_step, graph_run, graph_rewritten, containers_kept}

-- what a run that is done leaves; nothing where it is not done
abbrev done_left : {P : Type 0} → Option (Outcome P Left) → Option Left
done_left (Some (Done left)) = Some left
done_left (Some (Faulted fault)) = None
done_left (Some Spent) = None
done_left None = None

abbrev left_of : Reached → Left
left_of now = record { memory = innermost now.memories; turns = now.turns }

left_by_done : {P : Type 0} (coming : Coming P) → done_left (left_by coming) ≡ option_map left_of (done_of coming)
left_by_done (Some (Done now)) = refl
left_by_done (Some (Faulted fault)) = refl
left_by_done (Some Spent) = refl
left_by_done None = refl

as_it_was : (done : Option Reached) → option_map left_of (option_map (reached_in as_it_is) done) ≡ option_map left_of done
as_it_was None = refl
as_it_was (Some now) = refl

leaves_same : {P Q : Type 0} (coming : Coming P) (other : Coming Q) → EndsSame as_it_is coming other → done_left (left_by other) ≡ done_left (left_by coming)
leaves_same coming other same = left_by_done other ∙ ap (option_map left_of) same ∙ as_it_was (done_of coming) ∙ sym (left_by_done coming)

nothing_some : {A : Type 0} (x : A) → None ≡ Some x → ⊥
nothing_some x e = cc

some_same : {A : Type 0} (x y : A) → Some x ≡ Some y → x ≡ y
some_same x y e = cc

is_done : {P : Type 0} (outcome : Option (Outcome P Left)) (left : Left) → done_left outcome ≡ Some left → outcome ≡ Some (Done left)
is_done (Some (Done now)) left e = ap (λ left. Some (Done left)) (some_same now left e)
is_done (Some (Faulted fault)) left e = absurd (nothing_some left e)
is_done (Some Spent) left e = absurd (nothing_some left e)
is_done None left e = absurd (nothing_some left e)

-- two graphs whose runs from left to right leave the same have the same sequential runs
pub runs_same : (tree other : GraphTree) → ((memory : Memory) (most turns : ℕ) → done_left (big_run (run_of other memory) most turns) ≡ done_left (big_run (run_of tree memory) most turns)) → RunsSame tree other
runs_same tree other same memory turns left =
    (one_way tree other same, one_way other tree (λ memory most turns. sym (same memory most turns)))
  where
    one_way : (from to : GraphTree) → ((memory : Memory) (most turns : ℕ) → done_left (big_run (run_of to memory) most turns) ≡ done_left (big_run (run_of from memory) most turns)) →
        Sequential (run_of from memory) turns (Done left) → Sequential (run_of to memory) turns (Done left)
    one_way from to same sequential =
        let big : (most : ℕ) × (big_run (run_of from memory) most turns ≡ Some (Done left)) =
        sequential-big_run (run_of from memory) turns (Done left) (run_is_ordered from memory) (run_has_ordered_pools from memory) (run_is_run from memory) sequential in
        big_run-sequential (run_of to memory) big.0 turns (Done left) (run_is_ordered to memory) (run_has_ordered_pools to memory)
        (is_done (big_run (run_of to memory) big.0 turns) left (same memory big.0 turns ∙ ap done_left big.1))

module _ (Holds : ℕ → KindTree → Type 0) (replacing : Replacing) (names : List (List ℕ)) (replaces : (most : ℕ) → ReplacesSame most Holds replacing) where
  pub rewritten_runs_same : (tree : GraphTree) (path : List ℕ) → GraphLeads Holds tree path → NamesItsVariables tree → RunsSame tree (graph_with replacing names tree path)
  rewritten_runs_same tree path leads names_its = runs_same tree (graph_with replacing names tree path) (λ memory most turns.
      let after : GraphTree = graph_with replacing names tree path in
      let reach : ℕ → Reach = own_reach (containers_of tree) in
      subst (λ containers. done_left (big_run (unfold_graph after (own_reach containers) memory []) most turns) ≡ done_left (big_run (run_of tree memory) most turns)) (sym (containers_kept replacing names tree path))
      (ap done_left (graph_run after reach memory [] most turns)
      ∙ leaves_same (run_step (unfold_graph tree reach memory []) most [] turns) (run_step (unfold_graph after reach memory []) most [] turns)
      (graph_rewritten most Holds replacing names (replaces most) tree path reach reach memory [] [] leads names_its (λ number. refl) [] turns)
      ∙ sym (ap done_left (graph_run tree reach memory [] most turns))))
