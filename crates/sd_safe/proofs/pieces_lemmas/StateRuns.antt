-- The items of a state may interleave as its graph's run may, with their pools in order.
use Rattle.std.proofs.Common.{◌≡◌, inl, inr, ℕ, zero, suc, List, [], refl}
use Rattle.sd_work.specs.Memory.{Memory}
use Rattle.sd_work.specs.Exit.{Values}
use Rattle.sd_work.specs.Residual.{Items, list}
use Rattle.sd_work.specs.Step.{Done}
use Rattle.sd_work.specs.Run.{Left, Sequential}
use Rattle.sd_work.specs.OrderedPools.{HasOrderedPools}
use Rattle.sd_work.specs.Touch.{takes, inner, Touches}
use Rattle.sd_work.specs.WellFormed.{IsOrdered}
use Rattle.sd_confluence.specs.Safe.{IsSafe, MayInterleave}
use Rattle.sd_pieces.specs.history.Pieces.{graph_of_items}
use Rattle.sd_pieces.specs.history.DoneWithin.{IsDoneWithin}
use Rattle.sd_graph.specs.PlainTree.{StateTrees, no_state, and_state, GraphTree, graph}
use Rattle.sd_graph.specs.TreeParts.{containers_of, items_at}
use Rattle.sd_graph.specs.Wiring.{before}
use Rattle.sd_graph.specs.Context.{Context, own_reach}
use Rattle.sd_graph.specs.Unfold.{at_state, unfold_items, unfold_state}
use Rattle.sd_graph.proofs.UnfoldedOrder.{items_stay_ordered}
use Rattle.sd_graph.proofs.UnfoldedPools.{run_has_ordered_pools}
use Rattle.sd_graph.proofs.WiringLaws.{items_are_ordered}
use Rattle.sd_race.specs.race.Pairs.{IsGraphAccepted}
use Rattle.sd_safe.specs.normal.NormalForm.{IsGraphNormal}
use Rattle.sd_validity.specs.rules.Valid.{IsValid}
use Rattle.sd_windows.proofs.CutItems.{cut-items}
use Rattle.sd_safe.specs.pieces.ItemPieces.{state_items, state_place, work_in_pieces, IsStateInPieces}
use Rattle.sd_safe.proofs.fit_lemmas.Fitting.{graph-fit}
use Rattle.sd_safe.proofs.safe_lemmas.Whole.{may_interleave}

-- ---- the list of a state

list-safe : (states : StateTrees) (state : ℕ) (context : Context) → IsSafe (unfold_state states state context) →
    IsSafe (list Items (before context.containers (items_at states state)) (unfold_items (items_at states state) context))
list-safe no_state state context safe = (tt, record { compatible = λ i j less free touch other is is'. absurd is; points = λ is. cc })
list-safe (and_state items exits states) zero context safe = safe
list-safe (and_state items exits states) (suc state) context safe = list-safe states state context safe

list-pools : (states : StateTrees) (state : ℕ) (context : Context) (depth : ℕ) → HasOrderedPools depth (unfold_state states state context) →
    HasOrderedPools depth (list Items (before context.containers (items_at states state)) (unfold_items (items_at states state) context))
list-pools no_state state context depth pools = (tt, λ is i j less free level container pushed taken. absurd pushed)
list-pools (and_state items exits states) zero context depth pools = pools
list-pools (and_state items exits states) (suc state) context depth pools = list-pools states state context depth pools

list-takes : (states : StateTrees) (state : ℕ) (context : Context) (level container : ℕ) → (Touches (unfold_state states state context) (takes level container) → ⊥) →
    Touches (list Items (before context.containers (items_at states state)) (unfold_items (items_at states state) context)) (takes level container) → ⊥
list-takes no_state state context level container none is = absurd is
list-takes (and_state items exits states) zero context level container none is = none is
list-takes (and_state items exits states) (suc state) context level container none is = list-takes states state context level container none is

-- ---- the items of a state

pub place-is : (tree : GraphTree) (state : ℕ) (values : Values) → ((state_place tree state values).containers ≡ containers_of tree) × ((state_place tree state values).values ≡ values)
    × ((number : ℕ) → (state_place tree state values).reach number ≡ own_reach (state_place tree state values).containers number)
place-is (graph name containers arguments variables symbols states) state values = (refl, refl, λ number. refl)

pub items-may : (tree : GraphTree) (state : ℕ) (values : Values) (own : Memory) → IsValid tree → IsGraphNormal tree → IsGraphAccepted tree →
    MayInterleave (graph_of_items (before (state_place tree state values).containers (state_items tree state)) (unfold_items (state_items tree state) (state_place tree state values)) own)
items-may (graph name containers arguments variables symbols states) state values own valid normal accepted =
    let tree = graph name containers arguments variables symbols states in
    let may = may_interleave tree own (graph-fit tree valid normal) accepted in
    let here = at_state containers variables states (own_reach containers) [] state values in
    let items = items_at states state in
    let safe = list-safe states state here (may.safe.1 state values) in
    let ordered : IsOrdered (list Items (before containers items) (unfold_items items here)) = (items_are_ordered containers items, items_stay_ordered items here) in
    let none : (level container : ℕ) → Touches (list Items (before containers items) (unfold_items items here)) (inner (takes level container)) → ⊥ =
    λ level container. list-takes states state here (suc level) container (λ is. may.inside level container (inr (inl (state, values, is)))) in
    record {
      ordered = (ordered, λ k e. ordered);
      safe = (safe, λ k e. safe);
      inside = λ level container is. elim is [
        | inl now ↦ none level container now
        | inr more ↦ elim more [ inl later ↦ none level container later.2 | inr exits ↦ absurd exits.2 ]
      ];
    }

pub items-pools : (tree : GraphTree) (state : ℕ) (values : Values) (own : Memory) →
    HasOrderedPools 0 (graph_of_items (before (state_place tree state values).containers (state_items tree state)) (unfold_items (state_items tree state) (state_place tree state values)) own)
items-pools (graph name containers arguments variables symbols states) state values own =
    let pools = list-pools states state (at_state containers variables states (own_reach containers) [] state values) 1 ((run_has_ordered_pools (graph name containers arguments variables symbols states) own).1 state values) in
    (pools, λ k e. pools)

pub items-done : (tree : GraphTree) (state : ℕ) (values : Values) (counts : ℕ → List ℕ) (own : Memory) (turns : ℕ) (left : Left) → IsStateInPieces tree state counts (state_place tree state values) →
    Sequential (graph_of_items (before (state_place tree state values).containers (state_items tree state)) (unfold_items (state_items tree state) (state_place tree state values)) own) turns (Done left) →
    IsDoneWithin (work_in_pieces counts (state_items tree state) (state_place tree state values)) (unfold_items (state_items tree state) (state_place tree state values)) own turns left
items-done tree state values counts own turns left s run = record {
  cut = cut-items (state_items tree state) counts 0 (state_place tree state values) s.all;
  interleave = items-may tree state values own s.valid s.normal s.accepted;
  pools = items-pools tree state values own;
  done = run;
}
