-- Runs that are done from left to right; pools too.
use Rattle.std.proofs.Common.{◌≡◌, pos, [], ◌∷◌, None, true, false, refl}
use Rattle.std.specs.Int.{int_wrap}
use Rattle.sd_work.specs.declared.fault.FaultKind.TheVariants.{Subscript}
use Rattle.sd_num.specs.declared.width.Width.TheVariants.{W64}
use Rattle.sd_work.specs.Memory.{array}
use Rattle.sd_work.specs.Residual.{pool, idle, busy}
use Rattle.sd_work.specs.BigRun.{big_run}
use Rattle.sd_work.proofs.examples.ExampleParts.{cell, task, sets, two, then, points, graph, run_of, done, faulted, spent}
use Rattle.sd_work.proofs.examples.RunExamples.{pair, two_points, counts, lists, loop, nested_loop}
use Rattle.sd_work.proofs.examples.PoolExamples.{memory, counts_down, writes, by_element, passes_on}

points_are_done_in_order : big_run two_points 1 2 ≡ done (array W64 (pos 6 ∷ pos 0 ∷ []) ∷ []) 0
unfolding int_wrap
points_are_done_in_order = refl

items_are_done_in_order : big_run (graph (then (sets 1 (cell 0 0 0) (pos 5)) (sets 2 (cell 0 0 0) (pos 6))) pair) 1 3 ≡ done (array W64 (pos 6 ∷ pos 0 ∷ []) ∷ []) 1
unfolding int_wrap
items_are_done_in_order = refl

private_containers_are_dropped : big_run (graph (points (two (counts 0) (counts 1))) lists) 1 2 ≡ done (array W64 (pos 3 ∷ pos 4 ∷ []) ∷ array W64 (pos 3 ∷ pos 4 ∷ []) ∷ []) 0
unfolding int_wrap
private_containers_are_dropped = refl

a_loop_is_done_round_by_round : big_run (loop (array W64 (pos 3 ∷ pos 0 ∷ []) ∷ [])) 9 8 ≡ done (array W64 (pos 0 ∷ pos 6 ∷ []) ∷ []) 0
unfolding int_wrap
a_loop_is_done_round_by_round = refl

a_loop_wants_each_turn : big_run (loop (array W64 (pos 3 ∷ pos 0 ∷ []) ∷ [])) 9 7 ≡ spent
unfolding int_wrap
a_loop_wants_each_turn = refl

-- four transitions: into the loop, two rounds, and the end
transitions_are_counted : big_run (loop (array W64 (pos 3 ∷ pos 0 ∷ []) ∷ [])) 3 8 ≡ None
unfolding int_wrap
transitions_are_counted = refl

transitions_are_enough : big_run (loop (array W64 (pos 3 ∷ pos 0 ∷ []) ∷ [])) 4 8 ≡ done (array W64 (pos 0 ∷ pos 6 ∷ []) ∷ []) 0
unfolding int_wrap
transitions_are_enough = refl

a_nested_run_is_an_item : big_run nested_loop 9 3 ≡ run_of [] nested_loop 3
unfolding int_wrap
a_nested_run_is_an_item = refl

a_fault_ends_all : big_run (graph (then (task 4 (None ∷ []) (λ values. [])) (sets 5 (cell 0 0 0) (pos 5))) pair) 1 1 ≡ faulted 4 Subscript
a_fault_ends_all = refl

a_want_of_turns_ends_all : big_run (graph (then (task 4 (None ∷ []) (λ values. [])) (sets 5 (cell 0 0 0) (pos 5))) pair) 1 0 ≡ spent
a_want_of_turns_ends_all = refl

points_alone_are_no_run : big_run (points (two (sets 1 (cell 0 0 0) (pos 5)) (sets 2 (cell 0 0 0) (pos 6)))) 9 2 ≡ None
points_alone_are_no_run = refl

-- ---- pools: the oldest value is taken and done with, until the stream is empty

a_pool_is_done_value_by_value : big_run (graph counts_down (memory (pos 0) (pos 3 ∷ []))) 9 4 ≡ done (memory (pos 6) []) 0
unfolding int_wrap
a_pool_is_done_value_by_value = refl

takes_are_counted : big_run (graph counts_down (memory (pos 0) (pos 3 ∷ []))) 4 4 ≡ None
unfolding int_wrap
takes_are_counted = refl

the_oldest_value_is_done_first : big_run (graph writes (memory (pos 0) (pos 7 ∷ pos 8 ∷ pos 9 ∷ []))) 9 3 ≡ run_of [] (graph writes (memory (pos 0) (pos 7 ∷ pos 8 ∷ pos 9 ∷ []))) 3
unfolding int_wrap
the_oldest_value_is_done_first = refl

elements_are_dropped : big_run (graph by_element (memory (pos 0) (pos 7 ∷ pos 8 ∷ []))) 9 2 ≡ done (memory (pos 15) []) 0
unfolding int_wrap
elements_are_dropped = refl

pools_of_points_are_done_in_order : big_run (graph (points (two (passes_on (pos 1)) (passes_on (pos 2)))) (memory (pos 0) [])) 9 3 ≡ run_of [] (graph (points (two (passes_on (pos 1)) (passes_on (pos 2)))) (memory (pos 0) [])) 3
unfolding int_wrap
pools_of_points_are_done_in_order = refl

active_terms_are_done_first : big_run (graph (pool 0 1 (λ value. sets 1 (cell 0 0 0) value) (busy (pos 5) (sets 1 (cell 0 0 0) (pos 5)) idle) false) (memory (pos 0) (pos 7 ∷ []))) 9 2 ≡ done (memory (pos 7) []) 0
unfolding int_wrap
active_terms_are_done_first = refl

a_finished_pool_is_passed : big_run (graph (pool 0 1 (λ value. sets 1 (cell 0 0 0) value) idle true) (memory (pos 0) (pos 7 ∷ []))) 9 1 ≡ done (memory (pos 0) (pos 7 ∷ [])) 1
a_finished_pool_is_passed = refl
