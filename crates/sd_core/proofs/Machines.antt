-- The machine that the code keeps, when it begins, and the place of a picked move.
use Rattle.std.specs.Prelude.{◌<◌, ◌%◌, length, slice_index_or, None, true}
use Rattle.std.proofs.Common.{◌≡◌, ℕ, List, [], sym, ap, ap₂, ◌∙◌, subst}
use Rattle.std.proofs.lemmas.Nat.{mod_below}
use Rattle.sd_work.specs.Memory.{Memory, Memories}
use Rattle.sd_work.specs.Residual.{Term}
use Rattle.sd_work.specs.Settle.{settle}
use Rattle.sd_work.specs.Step.{Machine, opening, next_moves}
use Rattle.sd_work.specs.WellFormed.{IsWellFormed}
use Rattle.sd_work.proofs.going.MemoriesKept.{memories-ordered}
use Rattle.sd_work.proofs.going.Machines.{well_formed-settled}
use Rattle.sd_moves.specs.numbered.Counts.{count}
use Rattle.sd_moves.specs.numbered.Places.{place_of}
use Rattle.sd_moves.proofs.numbered_lemmas.Counted.{counted}
use Rattle.sd_moves.proofs.numbered_lemmas.Placed.{placed}
use Rattle.sd_graph.specs.PlainTree.{GraphTree}
use Rattle.sd_graph.specs.TreeParts.{containers_of}
use Rattle.sd_graph.specs.Context.{Reach, own_reach}
use Rattle.sd_graph.specs.Unfold.{unfold_graph, run_of}
use Rattle.sd_graph.specs.declared.place.Frame.{Frame}
use Rattle.sd_graph.specs.declared.place.Place.{Place}
use Rattle.sd_graph.proofs.UnfoldedOrder.{run_is_ordered}
use Rattle.sd_graph.proofs.UnfoldedPools.{run_has_ordered_pools}
use Rattle.sd_scope.specs.scope.Standing.{opening_reach, reach_by}
use Rattle.sd_scope.specs.declared.scope.base.Base.{Base}
use Rattle.sd_core.specs.Stepped.{place_by}

-- ---- a run that begins

-- a run without arguments from outside reaches its own containers
own_opening : (tree : GraphTree) (base : Base) → base.ways ≡ [] → opening_reach (containers_of tree) base ≡ own_reach (containers_of tree)
own_opening tree base none = λ i number. reach_by 0 (containers_of tree) number (slice_index_or (none i) number None)

pub outermost-run : (tree : GraphTree) (base : Base) (memory : Memory) → base.ways ≡ [] → base.around ≡ []
    → unfold_graph tree (opening_reach (containers_of tree) base) memory base.around ≡ run_of tree memory
outermost-run tree base memory no_way nothing_round =
    ap₂ (λ (reach : ℕ → Reach) (around : List Frame). unfold_graph tree reach memory around) (own_opening tree base no_way) nothing_round

abbrev pub with_turns : ℕ → Term Place → Machine Place
with_turns turns term = record { term = term; turns = turns }

pub opening-formed : (tree : GraphTree) (memory : Memory) (turns : ℕ) → IsWellFormed (opening (run_of tree memory) turns)
opening-formed tree memory turns =
    well_formed-settled (run_of tree memory) turns (run_is_ordered tree memory) (memories-ordered (run_of tree memory) 0 (run_has_ordered_pools tree memory))

-- what is left of a run that began, settled over no memory
pub opened : (tree : GraphTree) (base : Base) (memory : Memory) (begun left : Term Place) (memories : Memories) (before after : ℕ) → base.ways ≡ [] → base.around ≡ [] → memories ≡ []
    → begun ≡ unfold_graph tree (opening_reach (containers_of tree) base) memory base.around → left ≡ settle true [] memories begun → before ≡ after
    → with_turns before left ≡ opening (run_of tree memory) after
opened tree base memory begun left memories before after no_way nothing_round nowhere is is_settled same_turns =
    ap₂ with_turns same_turns
    (is_settled ∙ ap₂ (λ (m : Memories) (term : Term Place). settle true [] m term) nowhere (is ∙ outermost-run tree base memory no_way nothing_round))

-- ---- the picked move

pub picked-below : {P : Type 0} (machine : Machine P) (pick : ℕ) → 0 < length (next_moves machine) → pick % length (next_moves machine) < count machine.term []
picked-below machine pick some = subst (λ n. pick % length (next_moves machine) < n) (counted machine.term []) (mod_below pick (length (next_moves machine)) some)

pub picked-place : {P : Type 0} (machine : Machine P) (pick moves : ℕ) → 0 < length (next_moves machine) → moves ≡ length (next_moves machine)
    → place_of machine.term [] (pick % moves) ≡ place_by pick machine
picked-place machine pick moves some are =
    ap (λ n. place_of machine.term [] (pick % n)) are ∙ sym (placed machine.term [] (pick % length (next_moves machine)) [] (picked-below machine pick some))
