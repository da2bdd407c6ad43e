-- Runs of one instance, one copy, one reduction: reads, evaluation, effects, turns and faults.
use Rattle.std.proofs.Common.{◌≡◌, ℕ, pos, negsuc, ◌-ℤ◌, List, [], ◌∷◌, Option, Some, None, Err, refl}
use Rattle.std.specs.Int.{int_wrap}
use Rattle.sd_num.specs.declared.resolution.Resolution.TheVariants.{Sum, Last}
use Rattle.sd_work.specs.declared.fault.FaultKind.TheVariants.{Division, Subscript}
use Rattle.sd_num.specs.declared.width.Width.TheVariants.{W64}
use Rattle.sd_work.specs.Memory.{Memory, array, stream, Reference}
use Rattle.sd_work.specs.Leaf.{write_value, push_to, instance_of, copy_of, reduction_of}
use Rattle.sd_work.specs.Residual.{Term, leaf}
use Rattle.sd_work.proofs.examples.ExampleParts.{cell, value_of, task, sets, graph, run_of, trace_of, done, faulted, spent}

-- ---- an instance with two inputs: the difference of two elements into a third, and onto a stream

abbrev before : Memory
before = array W64 (pos 3 ∷ pos 7 ∷ pos 0 ∷ []) ∷ stream W64 (pos 1 ∷ []) ∷ []

abbrev difference : Term ℕ
difference = graph (task 5 (cell 0 0 0 ∷ cell 0 0 1 ∷ []) (λ values.
    write_value (value_of values 0 -ℤ value_of values 1) (cell 0 0 2) None ∷ push_to 0 1 (value_of values 0) ∷ [])) before

turns_exactly_enough : run_of [] difference 1 ≡ done (array W64 (pos 3 ∷ pos 7 ∷ negsuc 3 ∷ []) ∷ stream W64 (pos 1 ∷ pos 3 ∷ []) ∷ []) 0
unfolding int_wrap
turns_exactly_enough = refl

one_turn_too_few : run_of [] difference 0 ≡ spent
one_turn_too_few = refl

-- two reads, the evaluation, two effects and the transition
an_instance_is_six_moves : trace_of [] difference 1 ≡ (0, 1) ∷ (0, 1) ∷ (0, 1) ∷ (0, 1) ∷ (0, 1) ∷ (0, 1) ∷ []
an_instance_is_six_moves = refl

-- the step that finds no turn is in the trace
a_spent_step_is_traced : trace_of [] difference 0 ≡ (0, 1) ∷ []
a_spent_step_is_traced = refl

-- an element that is written twice has the second value: effects go in order
abbrev twice : Term ℕ
twice = graph (task 5 [] (λ values. write_value (pos 4) (cell 0 0 0) None ∷ write_value (pos 5) (cell 0 0 0) None ∷ [])) before

effects_go_in_order : run_of [] twice 1 ≡ done (array W64 (pos 5 ∷ pos 7 ∷ pos 0 ∷ []) ∷ stream W64 (pos 1 ∷ []) ∷ []) 0
unfolding int_wrap
effects_go_in_order = refl

-- each effect has its own resolution
abbrev added : Term ℕ
added = graph (task 5 [] (λ values. write_value (pos 4) (cell 0 0 0) (Some Sum) ∷ [])) before

an_effect_is_resolved : run_of [] added 1 ≡ done (array W64 (pos 7 ∷ pos 7 ∷ pos 0 ∷ []) ∷ stream W64 (pos 1 ∷ []) ∷ []) 0
unfolding int_wrap
an_effect_is_resolved = refl

-- ---- faults

abbrev reads_outside : Term ℕ
reads_outside = graph (task 5 (None ∷ []) (λ values. [])) before

a_read_outside_is_a_fault : run_of [] reads_outside 1 ≡ faulted 5 Subscript
a_read_outside_is_a_fault = refl

-- the turn is spent before anything else, so without one there is no fault
a_want_of_turns_goes_before_the_first_read : run_of [] reads_outside 0 ≡ spent
a_want_of_turns_goes_before_the_first_read = refl

a_fault_is_traced : trace_of [] reads_outside 1 ≡ (0, 1) ∷ []
a_fault_is_traced = refl

-- an instance without inputs begins by its evaluation
abbrev divides : Term ℕ
divides = graph (leaf 6 (instance_of [] (λ values. Err Division))) before

an_evaluation_may_fault : run_of [] divides 1 ≡ faulted 6 Division
an_evaluation_may_fault = refl

a_want_of_turns_goes_before_the_evaluation : run_of [] divides 0 ≡ spent
a_want_of_turns_goes_before_the_evaluation = refl

a_write_outside_is_a_fault : run_of [] (graph (sets 7 None (pos 1)) before) 1 ≡ faulted 7 Subscript
a_write_outside_is_a_fault = refl

-- an instance that has nothing to read and nothing to do is one move, and spends a turn
an_instance_without_effects_spends_a_turn : run_of [] (graph (task 5 [] (λ values. [])) before) 1 ≡ done before 0
unfolding int_wrap
an_instance_without_effects_spends_a_turn = refl

-- ---- copies and reductions, which spend no turn

abbrev turned_round : Term ℕ
turned_round = graph (leaf 8 (copy_of ((cell 0 0 0, cell 0 0 1) ∷ (cell 0 0 1, cell 0 0 2) ∷ []))) before

-- the second element is read after the first one is written
a_copy_goes_element_by_element : run_of [] turned_round 0 ≡ done (array W64 (pos 3 ∷ pos 3 ∷ pos 3 ∷ []) ∷ stream W64 (pos 1 ∷ []) ∷ []) 0
unfolding int_wrap
a_copy_goes_element_by_element = refl

-- a copied element is read and written in one move
a_copy_of_two_is_two_moves : trace_of [] turned_round 0 ≡ (0, 1) ∷ (0, 1) ∷ (0, 1) ∷ []
a_copy_of_two_is_two_moves = refl

a_copy_from_outside_is_a_fault : run_of [] (graph (leaf 8 (copy_of ((None, cell 0 0 0) ∷ []))) before) 0 ≡ faulted 8 Subscript
a_copy_from_outside_is_a_fault = refl

a_copy_to_outside_is_a_fault : run_of [] (graph (leaf 8 (copy_of ((cell 0 0 0, None) ∷ []))) before) 0 ≡ faulted 8 Subscript
a_copy_to_outside_is_a_fault = refl

a_copy_of_nothing_is_no_move : trace_of [] (graph (leaf 8 (copy_of [])) before) 0 ≡ (0, 1) ∷ []
a_copy_of_nothing_is_no_move = refl

-- both elements summed into the third one, which holds 2
abbrev filled : Memory
filled = array W64 (pos 3 ∷ pos 7 ∷ pos 2 ∷ []) ∷ []

abbrev pairs : List (Option Reference × Option Reference)
pairs = (cell 0 0 0, cell 0 0 2) ∷ (cell 0 0 1, cell 0 0 2) ∷ []

a_reduction_resolves_into_its_target : run_of [] (graph (leaf 9 (reduction_of Sum None (cell 0 0 2 ∷ []) pairs)) filled) 0 ≡ done (array W64 (pos 3 ∷ pos 7 ∷ pos 12 ∷ []) ∷ []) 0
unfolding int_wrap
a_reduction_resolves_into_its_target = refl

a_reduction_begins_with_its_identity : run_of [] (graph (leaf 9 (reduction_of Sum (Some (pos 0)) (cell 0 0 2 ∷ []) pairs)) filled) 0 ≡ done (array W64 (pos 3 ∷ pos 7 ∷ pos 10 ∷ []) ∷ []) 0
unfolding int_wrap
a_reduction_begins_with_its_identity = refl

-- one identity, two combinations, the transition
a_reduction_is_one_move_an_element : trace_of [] (graph (leaf 9 (reduction_of Sum (Some (pos 0)) (cell 0 0 2 ∷ []) pairs)) filled) 0 ≡ (0, 1) ∷ (0, 1) ∷ (0, 1) ∷ (0, 1) ∷ []
a_reduction_is_one_move_an_element = refl

a_reduction_by_the_last_keeps_the_last : run_of [] (graph (leaf 9 (reduction_of Last None (cell 0 0 2 ∷ []) pairs)) filled) 0 ≡ done (array W64 (pos 3 ∷ pos 7 ∷ pos 7 ∷ []) ∷ []) 0
unfolding int_wrap
a_reduction_by_the_last_keeps_the_last = refl
