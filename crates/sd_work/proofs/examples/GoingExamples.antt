-- Machines that go on until they are finished, and what stands still before its end.
use Rattle.std.proofs.Common.{◌≡◌, ◌<◌, ℕ, pos, [], ◌∷◌, Bool, true, false, not, nat_eq, refl, arith}
use Rattle.sd_work.specs.Residual.{Term, list, owning, nested, pool, Items, none, idle, busy, begun, finished}
use Rattle.sd_work.specs.Settle.{settled}
use Rattle.sd_work.specs.Step.{Machine, opening, next_moves}
use Rattle.sd_work.specs.WellFormed.{HasPoolMemories, IsWellFormed}
use Rattle.sd_work.specs.OrderedPools.{HasOrderedPools}
use Rattle.sd_work.proofs.examples.ExampleParts.{cell, sets, two, graph}
use Rattle.sd_work.proofs.examples.PoolExamples.{memory}
use Rattle.sd_work.proofs.examples.OrderedPoolsExamples.{in_order, nowhere}

-- a consume scope over this stream that does nothing with a value
abbrev empties : (level container : ℕ) → Term ℕ
empties level container = pool level container (λ value. list Items (λ j k. false) none) idle false

abbrev machine_of : Term ℕ → Machine ℕ
machine_of term = record { term = term; turns = 1 }

-- ---- the memory of a pool's stream is there

an_item_and_its_pool_have_their_memories : HasPoolMemories 0 in_order
an_item_and_its_pool_have_their_memories = ((tt, ((omega arith, tt, λ value. tt), tt)), λ state values. (tt, ((omega arith, tt, λ value. tt), tt)))

a_pool_over_a_private_stream_has_its_memory : HasPoolMemories 0 (owning (memory (pos 0) []) (empties 0 1))
a_pool_over_a_private_stream_has_its_memory = (omega arith, tt, λ value. tt)

a_pool_over_a_stream_outside_of_all_has_none : HasPoolMemories 0 (empties 0 1) → ⊥
a_pool_over_a_stream_outside_of_all_has_none h = let up : 0 < 0 = h.0 in let no : ⊥ = omega arith in no

one_memory_is_not_enough_for_the_next : HasPoolMemories 1 (empties 1 1) → ⊥
one_memory_is_not_enough_for_the_next h = let up : 1 < 1 = h.0 in let no : ⊥ = omega arith in no

a_later_state_is_asked : HasPoolMemories 0 (begun (λ state values. empties state 1) (λ state values. []) (memory (pos 0) []) []) → ⊥
a_later_state_is_asked h = let up : 5 < 1 = (h.1 5 []).0 in let no : ⊥ = omega arith in no

what_a_pool_unfolds_is_asked : HasPoolMemories 1 (pool 0 1 (λ value. empties 5 1) idle false) → ⊥
what_a_pool_unfolds_is_asked h = let up : 5 < 1 = (h.2 (pos 0)).0 in let no : ⊥ = omega arith in no

active_terms_are_asked : HasPoolMemories 1 (pool 0 1 (λ value. list Items (λ j k. false) none) (busy (pos 1) (empties 5 1) idle) false) → ⊥
active_terms_are_asked h = let up : 5 < 1 = h.1.0.0 in let no : ⊥ = omega arith in no

-- a pool that is finished for good, with two terms that are not
abbrev closed_anyhow : Term ℕ
closed_anyhow = pool 5 1 (λ value. empties 5 1) (busy (pos 1) (empties 5 1) (busy (pos 2) (empties 5 1) idle)) true

a_finished_pool_needs_no_memory : HasPoolMemories 0 closed_anyhow
a_finished_pool_needs_no_memory = tt

a_finished_pool_stands_in_order : HasOrderedPools 0 closed_anyhow
a_finished_pool_stands_in_order = tt

-- ---- no memory, and the run stands still

no_memory_is_not_well_formed : IsWellFormed (opening nowhere 1) → ⊥
no_memory_is_not_well_formed w = let up : 5 < 1 = w.memories.0.0.0 in let no : ⊥ = omega arith in no

it_has_no_move : next_moves (opening nowhere 1) ≡ []
it_has_no_move = refl

it_is_not_finished : finished (settled nowhere) ≡ false
it_is_not_finished = refl

-- ---- two items that wait for each other

abbrev both_ways : ℕ → ℕ → Bool
both_ways j k = not (nat_eq j k)

abbrev waiting_for_each_other : Term ℕ
waiting_for_each_other = graph (list Items both_ways (two (sets 1 (cell 0 0 0) (pos 5)) (sets 2 (cell 0 0 0) (pos 6)))) (memory (pos 0) [])

no_order_is_not_well_formed : IsWellFormed (opening waiting_for_each_other 1) → ⊥
no_order_is_not_well_formed w = let up : 1 < 0 = w.ordered.0.0.rises 1 0 refl in let no : ⊥ = omega arith in no

they_have_no_move : next_moves (opening waiting_for_each_other 1) ≡ []
they_have_no_move = refl

they_are_not_finished : finished (settled waiting_for_each_other) ≡ false
they_are_not_finished = refl

-- ---- a pool over an empty stream that was not settled

abbrev unsettled : Term ℕ
unsettled = graph (empties 0 1) (memory (pos 0) [])

-- whether a run's pool is finished for good
abbrev is_closed : Term ℕ → Bool
is_closed (nested body exits own state values part) = finished part
is_closed term = false

what_is_not_settled_is_not_well_formed : IsWellFormed (machine_of unsettled) → ⊥
what_is_not_settled_is_not_well_formed w = let clash : true ≡ false = (λ i. is_closed (w.settles i)) in cc

it_stands_still_too : next_moves (machine_of unsettled) ≡ []
it_stands_still_too = refl

once_settled_it_ends : next_moves (opening unsettled 1) ≡ [] ∷ []
once_settled_it_ends = refl
