-- What runs push into streams and take from them, in order.
use Rattle.std.proofs.Common.{◌≡◌, ◌+◌, ◌^◌, ℕ, zero, suc, ℤ, pos, negsuc, List, [], ◌∷◌, Some, None, true, false, refl, arith}
use Rattle.std.specs.Int.{int_wrap}
use Rattle.sd_num.specs.declared.resolution.Resolution.TheVariants.{Sum}
use Rattle.sd_num.specs.declared.width.Width.TheVariants.{W32}
use Rattle.sd_work.specs.Memory.{stream}
use Rattle.sd_work.specs.Leaf.{Pending, write_value, push_to}
use Rattle.sd_work.specs.Residual.{Term, owning, pool, idle}
use Rattle.sd_work.specs.Change.{write, push, take}
use Rattle.sd_work.specs.Step.{opening}
use Rattle.sd_work.proofs.examples.ExampleParts.{cell, task, two, points, graph, sets}
use Rattle.sd_work.proofs.examples.PoolExamples.{memory}
use Rattle.sd_confluence.specs.Safe.{pool_over}
use Rattle.sd_confluence.specs.Event.{Event, pushed, taken, event_of, event_at, events, values_pushed, values_taken, AreEventsAlike}

abbrev below : ℤ → List Pending
below (pos zero) = []
below (pos (suc n)) = push_to 0 1 (pos n) ∷ []
below (negsuc n) = []

-- a value is added up, and the one below is pushed
abbrev counting : ℤ → Term ℕ
counting value = task 1 [] (λ values. write_value value (cell 0 0 0) (Some Sum) ∷ below value)

abbrev events_by_picks : (picks : List ℕ) → Term ℕ → (turns : ℕ) → List Event
events_by_picks picks term turns = events 60 picks (opening term turns)

-- ---- a pool that pushes to itself

abbrev counts_from : List ℤ → Term ℕ
counts_from values = pool_over (memory (pos 0) values) 1 counting

-- the take, the evaluation, the write and the push of each value; no value is below 0
a_run_has_its_takes_and_pushes_in_order : events_by_picks [] (counts_from (pos 2 ∷ [])) 3
    ≡ taken 1 (pos 2) ∷ pushed 1 (pos 1) ∷ taken 1 (pos 1) ∷ pushed 1 (pos 0) ∷ taken 1 (pos 0) ∷ []
unfolding int_wrap
a_run_has_its_takes_and_pushes_in_order = refl

its_values_are_taken_in_order : values_taken 1 (events_by_picks [] (counts_from (pos 2 ∷ [])) 3) ≡ pos 2 ∷ pos 1 ∷ pos 0 ∷ []
unfolding int_wrap
its_values_are_taken_in_order = refl

its_values_are_pushed_in_order : values_pushed 1 (events_by_picks [] (counts_from (pos 2 ∷ [])) 3) ≡ pos 1 ∷ pos 0 ∷ []
unfolding int_wrap
its_values_are_pushed_in_order = refl

no_value_of_another_stream_is_taken : values_taken 2 (events_by_picks [] (counts_from (pos 2 ∷ [])) 3) ≡ []
unfolding int_wrap
no_value_of_another_stream_is_taken = refl

no_value_is_pushed_into_another_stream : values_pushed 0 (events_by_picks [] (counts_from (pos 2 ∷ [])) 3) ≡ []
unfolding int_wrap
no_value_is_pushed_into_another_stream = refl

-- without picks: 1, then the 0 that waited behind it, then the 0 that was pushed
the_oldest_values_are_taken_first : values_taken 1 (events_by_picks [] (counts_from (pos 1 ∷ pos 0 ∷ [])) 3) ≡ pos 1 ∷ pos 0 ∷ pos 0 ∷ []
unfolding int_wrap
the_oldest_values_are_taken_first = refl

another_value_may_be_taken_first : values_taken 1 (events_by_picks (1 ∷ []) (counts_from (pos 1 ∷ pos 0 ∷ [])) 3) ≡ pos 0 ∷ pos 1 ∷ pos 0 ∷ []
unfolding int_wrap
another_value_may_be_taken_first = refl

-- the two picks take the second value and then the first one; after them the one turn is spent on the first term, and there is none for the second
each_pick_is_used_once : events_by_picks (1 ∷ 1 ∷ []) (counts_from (pos 7 ∷ pos 0 ∷ pos 8 ∷ [])) 1 ≡ taken 1 (pos 0) ∷ taken 1 (pos 7) ∷ []
unfolding int_wrap
each_pick_is_used_once = refl

-- the events of so many steps, and of no more
the_first_steps_have_the_first_events : events 4 [] (opening (counts_from (pos 2 ∷ [])) 3) ≡ taken 1 (pos 2) ∷ pushed 1 (pos 1) ∷ []
unfolding int_wrap
the_first_steps_have_the_first_events = refl

-- a step without a turn is none, and ends the run
a_run_without_turns_has_no_more_events : events_by_picks [] (counts_from (pos 2 ∷ [])) 1 ≡ taken 1 (pos 2) ∷ pushed 1 (pos 1) ∷ taken 1 (pos 1) ∷ []
unfolding int_wrap
a_run_without_turns_has_no_more_events = refl

-- the same work in a graph; its transition is no event
a_transition_is_no_event : events_by_picks [] (graph (pool 0 1 counting idle false) (memory (pos 0) (pos 1 ∷ []))) 2 ≡ taken 1 (pos 1) ∷ pushed 1 (pos 0) ∷ taken 1 (pos 0) ∷ []
unfolding int_wrap
a_transition_is_no_event = refl

-- ---- events that are alike

the_same_events_in_another_order_are_alike : AreEventsAlike (taken 1 (pos 7) ∷ pushed 1 (pos 8) ∷ []) (pushed 1 (pos 8) ∷ taken 1 (pos 7) ∷ [])
the_same_events_in_another_order_are_alike container = (λ value. refl, λ value. refl)

takes_of_other_values_are_not_alike : AreEventsAlike (taken 1 (pos 7) ∷ []) (taken 1 (pos 8) ∷ []) → ⊥
takes_of_other_values_are_not_alike h = let clash : 1 ≡ 0 = (h 1).0 (pos 7) in omega (arith, clash)

pushes_of_other_values_are_not_alike : AreEventsAlike (pushed 1 (pos 7) ∷ []) (pushed 1 (pos 8) ∷ []) → ⊥
pushes_of_other_values_are_not_alike h = let clash : 1 ≡ 0 = (h 1).1 (pos 7) in omega (arith, clash)

a_take_and_a_push_are_not_alike : AreEventsAlike (taken 1 (pos 7) ∷ []) (pushed 1 (pos 7) ∷ []) → ⊥
a_take_and_a_push_are_not_alike h = let clash : 1 ≡ 0 = (h 1).0 (pos 7) in omega (arith, clash)

-- ---- what is no event

a_push_of_a_number_is_of_its_element : event_of (memory (pos 0) []) (push 0 1 (pos (2 ^ 64 + 5))) ≡ pushed 1 (pos 5) ∷ []
unfolding int_wrap
a_push_of_a_number_is_of_its_element = refl

a_push_into_a_stream_of_32_bits_is_of_its_element : event_of (stream W32 [] ∷ []) (push 0 0 (pos (2 ^ 32 + 5))) ≡ pushed 0 (pos 5) ∷ []
unfolding int_wrap
a_push_into_a_stream_of_32_bits_is_of_its_element = refl

a_push_into_an_array_is_no_event : event_of (memory (pos 0) []) (push 0 0 (pos 5)) ≡ []
a_push_into_an_array_is_no_event = refl

a_push_into_no_container_is_no_event : event_of (memory (pos 0) []) (push 0 2 (pos 5)) ≡ []
a_push_into_no_container_is_no_event = refl

a_take_is_of_its_position : event_of (memory (pos 0) (pos 7 ∷ pos 8 ∷ [])) (take 0 1 1) ≡ taken 1 (pos 8) ∷ []
a_take_is_of_its_position = refl

a_take_of_no_value_is_no_event : event_of (memory (pos 0) (pos 7 ∷ [])) (take 0 1 1) ≡ []
a_take_of_no_value_is_no_event = refl

a_push_into_a_stream_outside_is_no_event : event_of (memory (pos 0) []) (push 1 1 (pos 5)) ≡ []
a_push_into_a_stream_outside_is_no_event = refl

a_take_from_a_stream_outside_is_no_event : event_of (memory (pos 0) (pos 7 ∷ [])) (take 1 1 0) ≡ []
a_take_from_a_stream_outside_is_no_event = refl

a_write_is_no_event : event_of (memory (pos 0) []) (write (record { level = 0; container = 0; element = 0 }) None (pos 5)) ≡ []
a_write_is_no_event = refl

-- a point that pushes into a stream of its own, and then into the one outside
abbrev pushes_both : Term ℕ
pushes_both = owning (memory (pos 0) []) (task 1 [] (λ values. push_to 0 1 (pos 7) ∷ push_to 1 1 (pos 8) ∷ []))

a_push_inside_a_private_memory_is_no_event_outside : events_by_picks [] (graph pushes_both (memory (pos 0) [])) 1 ≡ pushed 1 (pos 8) ∷ []
unfolding int_wrap
a_push_inside_a_private_memory_is_no_event_outside = refl

-- nor is it one of a point alone, which is no run of a graph
a_push_of_a_point_alone_is_no_event : events_by_picks [] pushes_both 1 ≡ []
unfolding int_wrap
a_push_of_a_point_alone_is_no_event = refl

-- points have no memory of their own, so what they do inside theirs is no event of the whole
work_without_a_memory_has_no_event : events_by_picks [] (points (two (sets 1 (cell 0 0 0) (pos 5)) pushes_both)) 2 ≡ []
unfolding int_wrap
work_without_a_memory_has_no_event = refl

-- where the work of a state is finished, any place in it stands for the transition
a_transition_is_no_event_at_any_place : event_at (graph (pool 0 1 counting idle true) (memory (pos 0) (pos 7 ∷ []))) (0 ∷ 0 ∷ []) ≡ []
a_transition_is_no_event_at_any_place = refl
