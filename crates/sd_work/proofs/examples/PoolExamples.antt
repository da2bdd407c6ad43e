-- Runs of consume scopes: what is taken, by which moves, and when one is finished for good.
use Rattle.std.proofs.Common.{◌≡◌, ℕ, zero, suc, ℤ, pos, negsuc, List, [], ◌∷◌, Some, false, refl}
use Rattle.std.specs.Int.{int_wrap}
use Rattle.sd_num.specs.declared.resolution.Resolution.TheVariants.{Sum}
use Rattle.sd_num.specs.declared.width.Width.TheVariants.{W64}
use Rattle.sd_work.specs.Memory.{Memory, array, stream}
use Rattle.sd_work.specs.Leaf.{Pending, write_value, push_to, doing}
use Rattle.sd_work.specs.Residual.{Term, leaf, owning, pool, idle, busy, list, Items, also}
use Rattle.sd_work.specs.Step.{opening, next_moves}
use Rattle.sd_work.proofs.examples.ExampleParts.{cell, value_of, task, sets, two, unordered, then, points, graph, run_of, trace_of, done, spent}

abbrev pub memory : (element : ℤ) → (values : List ℤ) → Memory
memory element values = array W64 (element ∷ []) ∷ stream W64 values ∷ []

-- a consume scope over the stream that is container 1 at this level
abbrev consume : (level : ℕ) → (ℤ → Term ℕ) → Term ℕ
consume level body = pool level 1 body idle false

-- a tasklet that pushes one value
abbrev pushes : (level : ℕ) → ℤ → Term ℕ
pushes level value = task 1 [] (λ values. push_to level 1 value ∷ [])

-- ---- a pool that pushes to itself: it adds up its value and pushes the one below, down to 0

abbrev below : ℤ → List Pending
below (pos zero) = []
below (pos (suc n)) = push_to 0 1 (pos n) ∷ []
below (negsuc n) = []

abbrev pub counts_down : Term ℕ
counts_down = consume 0 (λ value. task 1 [] (λ values. write_value value (cell 0 0 0) (Some Sum) ∷ below value))

a_pool_that_pushes_to_itself : run_of [] (graph counts_down (memory (pos 0) (pos 3 ∷ []))) 4 ≡ done (memory (pos 6) []) 0
unfolding int_wrap
a_pool_that_pushes_to_itself = refl

a_pool_wants_its_turns : run_of [] (graph counts_down (memory (pos 0) (pos 3 ∷ []))) 3 ≡ spent
unfolding int_wrap
a_pool_wants_its_turns = refl

-- the take, the evaluation, the write and the push of 1; the take, the evaluation and the write of 0; the transition
a_take_is_a_move : trace_of [] (graph counts_down (memory (pos 0) (pos 1 ∷ []))) 2 ≡ (0, 1) ∷ (0, 1) ∷ (0, 1) ∷ (0, 1) ∷ (0, 1) ∷ (0, 1) ∷ (0, 1) ∷ (0, 1) ∷ []
unfolding int_wrap
a_take_is_a_move = refl

-- ---- which value is taken: each writes the one element, so the last one stays

abbrev pub writes : Term ℕ
writes = consume 0 (λ value. sets 1 (cell 0 0 0) value)

the_oldest_value_is_taken_first : run_of [] (graph writes (memory (pos 0) (pos 7 ∷ pos 8 ∷ pos 9 ∷ []))) 3 ≡ done (memory (pos 9) []) 0
unfolding int_wrap
the_oldest_value_is_taken_first = refl

-- the pick 2 takes position 2, and its term goes first
any_position_may_be_taken : run_of (2 ∷ []) (graph writes (memory (pos 0) (pos 7 ∷ pos 8 ∷ pos 9 ∷ []))) 3 ≡ done (memory (pos 8) []) 0
unfolding int_wrap
any_position_may_be_taken = refl

-- three takes, each after the moves of the active terms; then the active terms
the_moves_of_a_pool_are_counted : trace_of (2 ∷ 1 ∷ 2 ∷ []) (graph writes (memory (pos 0) (pos 7 ∷ pos 8 ∷ pos 9 ∷ []))) 3
    ≡ (2, 3) ∷ (1, 3) ∷ (2, 3) ∷ (0, 3) ∷ (0, 3) ∷ (0, 2) ∷ (0, 2) ∷ (0, 1) ∷ (0, 1) ∷ (0, 1) ∷ []
unfolding int_wrap
the_moves_of_a_pool_are_counted = refl

active_terms_go_in_the_order_of_taking : run_of (2 ∷ 1 ∷ 2 ∷ []) (graph writes (memory (pos 0) (pos 7 ∷ pos 8 ∷ pos 9 ∷ []))) 3 ≡ done (memory (pos 8) []) 0
unfolding int_wrap
active_terms_go_in_the_order_of_taking = refl

-- a finished active term keeps its place, so the next one is still number 1
a_finished_active_term_is_kept : next_moves (opening (pool 0 1 (sets 1 (cell 0 0 0)) (busy (pos 7) (leaf 1 (doing [])) (busy (pos 8) (sets 1 (cell 0 0 0) (pos 8)) idle)) false) 1) ≡ (1 ∷ 1 ∷ []) ∷ []
a_finished_active_term_is_kept = refl

-- an element container is private to its active term
abbrev pub by_element : Term ℕ
by_element = consume 0 (λ value. owning (array W64 (value ∷ []) ∷ []) (task 1 (cell 0 0 0 ∷ []) (λ values. write_value (value_of values 0) (cell 1 0 0) (Some Sum) ∷ [])))

an_active_term_has_its_element : run_of (1 ∷ 1 ∷ []) (graph by_element (memory (pos 0) (pos 7 ∷ pos 8 ∷ []))) 2 ≡ done (memory (pos 15) []) 0
unfolding int_wrap
an_active_term_has_its_element = refl

-- ---- when a pool is finished for good

-- before the first move: an item after a pool over an empty stream may go on at once
a_run_is_settled_at_its_begin : run_of [] (graph (then writes (sets 2 (cell 0 0 0) (pos 5))) (memory (pos 0) [])) 1 ≡ done (memory (pos 5) []) 0
unfolding int_wrap
a_run_is_settled_at_its_begin = refl

-- one after the other in one pass, so the transition is the first move
pools_in_turn_are_finished_in_one_pass : trace_of [] (graph (then writes writes) (memory (pos 0) [])) 0 ≡ (0, 1) ∷ []
pools_in_turn_are_finished_in_one_pass = refl

-- not before it may go on: what the item before it pushes is taken
a_pool_waits_for_its_turn : run_of [] (graph (then (pushes 0 (pos 5)) writes) (memory (pos 0) [])) 2 ≡ done (memory (pos 5) []) 0
unfolding int_wrap
a_pool_waits_for_its_turn = refl

-- not while a term is active, though the stream is empty: the item after it waits
a_pool_waits_for_its_active_terms : trace_of (0 ∷ 1 ∷ []) (graph (then writes (sets 2 (cell 0 0 0) (pos 5))) (memory (pos 0) (pos 7 ∷ []))) 2 ≡ (0, 1) ∷ (0, 1) ∷ (0, 1) ∷ (0, 1) ∷ (0, 1) ∷ (0, 1) ∷ []
a_pool_waits_for_its_active_terms = refl

-- and then for good: what is pushed later stays in the stream
a_finished_pool_takes_no_more : run_of [] (graph (then writes (pushes 0 (pos 5))) (memory (pos 0) [])) 1 ≡ done (memory (pos 0) (pos 5 ∷ [])) 0
unfolding int_wrap
a_finished_pool_takes_no_more = refl

a_finished_pool_has_no_move : trace_of [] (graph (then writes (pushes 0 (pos 5))) (memory (pos 0) [])) 1 ≡ (0, 1) ∷ (0, 1) ∷ (0, 1) ∷ []
a_finished_pool_has_no_move = refl

-- also while an item after the push goes on
a_finished_pool_has_no_take : trace_of [] (graph (then writes (then (pushes 0 (pos 5)) (sets 2 (cell 0 0 0) (pos 9)))) (memory (pos 0) [])) 2 ≡ (0, 1) ∷ (0, 1) ∷ (0, 1) ∷ (0, 1) ∷ (0, 1) ∷ []
a_finished_pool_has_no_take = refl

-- ---- in a map that holds the pool but not its stream, all earlier points are finished first

-- each point adds up what waits in the stream outside, and then pushes its own number
abbrev pub passes_on : ℤ → Term ℕ
passes_on number = then
    (consume 0 (λ value. task 1 [] (λ values. write_value value (cell 0 0 0) (Some Sum) ∷ [])))
    (pushes 0 number)

-- the second point takes what the first one pushed, the third what the second one did
a_pool_waits_for_earlier_points : run_of [] (graph (points (also (passes_on (pos 1)) (two (passes_on (pos 2)) (passes_on (pos 4))))) (memory (pos 0) [])) 5
    ≡ done (memory (pos 3) (pos 4 ∷ [])) 0
unfolding int_wrap
a_pool_waits_for_earlier_points = refl

-- so at first there is the move of the first point alone
later_pools_over_an_outer_stream_wait : trace_of [] (graph (points (two (sets 1 (cell 0 0 0) (pos 1)) (then writes (sets 2 (cell 0 0 0) (pos 5))))) (memory (pos 0) [])) 2
    ≡ (0, 1) ∷ (0, 1) ∷ (0, 1) ∷ (0, 1) ∷ (0, 1) ∷ []
later_pools_over_an_outer_stream_wait = refl

-- a pool over a stream of its own point waits for no other point
abbrev own_stream : Term ℕ
own_stream = owning (memory (pos 0) []) (then writes (sets 2 (cell 1 0 0) (pos 5)))

a_pool_over_an_own_stream_does_not_wait : trace_of [] (graph (points (two (sets 1 (cell 0 0 0) (pos 1)) own_stream)) (memory (pos 0) [])) 2
    ≡ (0, 2) ∷ (0, 2) ∷ (0, 1) ∷ (0, 1) ∷ (0, 1) ∷ []
a_pool_over_an_own_stream_does_not_wait = refl

-- nor does one wait for items beside it that are not before it
a_pool_does_not_wait_for_items_beside_it : trace_of [] (graph (list Items unordered (two (sets 1 (cell 0 0 0) (pos 1)) (then writes (sets 2 (cell 0 0 0) (pos 5))))) (memory (pos 0) [])) 2
    ≡ (0, 2) ∷ (0, 2) ∷ (0, 1) ∷ (0, 1) ∷ (0, 1) ∷ []
a_pool_does_not_wait_for_items_beside_it = refl
