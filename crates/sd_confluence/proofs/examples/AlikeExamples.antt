-- Which memories are alike, and what an interleaving of one pool leaves.
use Rattle.std.proofs.Common.{◌≡◌, ℕ, suc, ℤ, pos, List, [], ◌∷◌, Bool, true, false, cond, int_eq, refl, ap, arith}
use Rattle.std.specs.Int.{int_wrap}
use Rattle.sd_num.specs.declared.width.Width.TheVariants.{W32, W64}
use Rattle.sd_work.specs.Memory.{Memory, array, stream}
use Rattle.sd_work.specs.Leaf.{push_to}
use Rattle.sd_work.specs.Residual.{Term, pool, idle}
use Rattle.sd_work.specs.Run.{Left}
use Rattle.sd_work.proofs.examples.ExampleParts.{value_of, task, graph, run_of, done}
use Rattle.sd_confluence.specs.Alike.{how_often, HoldAlike, AreContentsAlike, AreAlike, LeaveAlike}

each_value_is_counted : how_often (pos 7 ∷ pos 8 ∷ pos 7 ∷ []) (pos 7) ≡ 2
each_value_is_counted = refl

a_value_that_is_not_there_stands_no_time : how_often (pos 7 ∷ pos 8 ∷ pos 7 ∷ []) (pos 9) ≡ 0
a_value_that_is_not_there_stands_no_time = refl

-- ---- streams

exchanged : (a b : Bool) (n : ℕ) → cond a (suc (cond b (suc n) n)) (cond b (suc n) n) ≡ cond b (suc (cond a (suc n) n)) (cond a (suc n) n)
exchanged true true n = refl
exchanged true false n = refl
exchanged false true n = refl
exchanged false false n = refl

exchanged_values : (values : List ℤ) → HoldAlike (pos 7 ∷ pos 8 ∷ values) (pos 8 ∷ pos 7 ∷ values)
exchanged_values values value = exchanged (int_eq (pos 7) value) (int_eq (pos 8) value) (how_often values value)

streams_in_another_order_are_alike : AreAlike (stream W64 (pos 7 ∷ pos 8 ∷ pos 9 ∷ []) ∷ []) (stream W64 (pos 8 ∷ pos 7 ∷ pos 9 ∷ []) ∷ [])
streams_in_another_order_are_alike = ((refl, exchanged_values (pos 9 ∷ [])), tt)

streams_that_hold_a_value_another_number_of_times_are_not_alike : AreAlike (stream W64 (pos 7 ∷ pos 7 ∷ []) ∷ []) (stream W64 (pos 7 ∷ pos 8 ∷ []) ∷ []) → ⊥
streams_that_hold_a_value_another_number_of_times_are_not_alike h = let clash : 2 ≡ 1 = h.0.1 (pos 7) in omega (arith, clash)

-- the values are the same ones, each of them counts
streams_that_hold_a_value_once_more_are_not_alike : AreAlike (stream W64 (pos 7 ∷ pos 7 ∷ []) ∷ []) (stream W64 (pos 7 ∷ []) ∷ []) → ⊥
streams_that_hold_a_value_once_more_are_not_alike h = let clash : 2 ≡ 1 = h.0.1 (pos 7) in omega (arith, clash)

streams_of_two_lengths_are_not_alike : AreAlike (stream W64 (pos 7 ∷ []) ∷ []) (stream W64 (pos 7 ∷ pos 8 ∷ []) ∷ []) → ⊥
streams_of_two_lengths_are_not_alike h = let clash : 0 ≡ 1 = h.0.1 (pos 8) in omega (arith, clash)

-- ---- arrays, and memories

arrays_with_the_same_elements_are_alike : AreContentsAlike (array W64 (pos 7 ∷ pos 8 ∷ [])) (array W64 (pos 7 ∷ pos 8 ∷ []))
arrays_with_the_same_elements_are_alike = (refl, refl)

arrays_in_another_order_are_not_alike : AreAlike (array W64 (pos 7 ∷ pos 8 ∷ []) ∷ []) (array W64 (pos 8 ∷ pos 7 ∷ []) ∷ []) → ⊥
arrays_in_another_order_are_not_alike h = let same : pos 7 ≡ pos 8 = ap (λ values. value_of values 0) h.0.1 in let clash : ◌≡◌ {A = ℕ} 7 8 = cc in omega (arith, clash)

arrays_of_two_widths_are_not_alike : AreContentsAlike (array W32 []) (array W64 []) → ⊥
arrays_of_two_widths_are_not_alike h = let clash : W32 ≡ W64 = h.0 in cc

streams_of_two_widths_are_not_alike : AreContentsAlike (stream W32 []) (stream W64 []) → ⊥
streams_of_two_widths_are_not_alike h = let clash : W32 ≡ W64 = h.0 in cc

a_stream_and_an_array_are_not_alike : AreAlike (stream W64 [] ∷ []) (array W64 [] ∷ []) → ⊥
a_stream_and_an_array_are_not_alike h = h.0

an_array_and_a_stream_are_not_alike : AreAlike (array W64 [] ∷ []) (stream W64 [] ∷ []) → ⊥
an_array_and_a_stream_are_not_alike h = h.0

a_longer_memory_is_not_alike : AreAlike (stream W64 [] ∷ []) [] → ⊥
a_longer_memory_is_not_alike h = h

a_shorter_memory_is_not_alike : AreAlike [] (stream W64 [] ∷ []) → ⊥
a_shorter_memory_is_not_alike h = h

-- a difference in the first of two, and in the second
each_container_is_alike_in_alike_memories : (AreAlike (array W64 [] ∷ stream W64 [] ∷ []) (stream W64 [] ∷ stream W64 [] ∷ []) → ⊥) × (AreAlike (stream W64 [] ∷ array W64 [] ∷ []) (stream W64 [] ∷ stream W64 [] ∷ []) → ⊥)
each_container_is_alike_in_alike_memories = ((λ h. h.0), λ h. h.1.0)

-- ---- what runs leave

abbrev left : Memory → ℕ → Left
left memory turns = record { memory = memory; turns = turns }

fewer_turns_are_not_alike : LeaveAlike (left [] 3) (left [] 2) → ⊥
fewer_turns_are_not_alike h = let clash : 3 ≡ 2 = h.turns in omega (arith, clash)

another_memory_is_not_alike : LeaveAlike (left (array W64 [] ∷ []) 3) (left [] 3) → ⊥
another_memory_is_not_alike h = h.memory

-- a pool that pushes each of its values into another stream
abbrev passes_on : Term ℕ
passes_on = graph (pool 0 0 (λ value. task 1 [] (λ values. push_to 0 1 value ∷ [])) idle false) (stream W64 (pos 7 ∷ pos 8 ∷ []) ∷ stream W64 [] ∷ [])

the_sequential_run_keeps_the_order : run_of [] passes_on 2 ≡ done (stream W64 [] ∷ stream W64 (pos 7 ∷ pos 8 ∷ []) ∷ []) 0
unfolding int_wrap
the_sequential_run_keeps_the_order = refl

another_run_leaves_another_order : run_of (1 ∷ []) passes_on 2 ≡ done (stream W64 [] ∷ stream W64 (pos 8 ∷ pos 7 ∷ []) ∷ []) 0
unfolding int_wrap
another_run_leaves_another_order = refl

the_two_runs_leave_alike : LeaveAlike (left (stream W64 [] ∷ stream W64 (pos 7 ∷ pos 8 ∷ []) ∷ []) 0) (left (stream W64 [] ∷ stream W64 (pos 8 ∷ pos 7 ∷ []) ∷ []) 0)
the_two_runs_leave_alike = record { memory = ((refl, λ value. refl), ((refl, exchanged_values []), tt)); turns = refl }
