-- Runs of items, points, private containers, and graphs with their transitions; by picks too.
use Rattle.std.proofs.Common.{◌≡◌, ℕ, zero, suc, ℤ, pos, ◌+ℤ◌, ◌-ℤ◌, List, [], ◌∷◌, Option, Some, None, Result, Ok, Err, Bool, true, false, int_lt, refl, arith}
use Rattle.std.specs.Int.{int_wrap}
use Rattle.sd_num.specs.declared.resolution.Resolution.TheVariants.{Sum}
use Rattle.sd_work.specs.declared.fault.FaultKind.{FaultKind}
use Rattle.sd_work.specs.declared.fault.FaultKind.TheVariants.{Division, Subscript}
use Rattle.sd_num.specs.declared.width.Width.TheVariants.{W64}
use Rattle.sd_work.specs.Memory.{Memory, array, Reference}
use Rattle.sd_work.specs.Leaf.{write_value, copy_of}
use Rattle.sd_work.specs.Exit.{Values, Guard, Exit}
use Rattle.sd_work.specs.Residual.{Term, leaf, list, Items, owning, begun, none, also, IsOrder}
use Rattle.sd_work.specs.Step.{Done, Spent, opening, step}
use Rattle.sd_work.specs.Run.{Run, Sequential, run}
use Rattle.sd_work.proofs.examples.ExampleParts.{cell, value_of, task, sets, two, unordered, in_turn, then, points, graph, run_of, trace_of, done, faulted, spent}

-- ---- two points that write one element

abbrev pub pair : Memory
pair = array W64 (pos 0 ∷ pos 0 ∷ []) ∷ []

abbrev pub two_points : Term ℕ
two_points = graph (points (two (sets 1 (cell 0 0 0) (pos 5)) (sets 2 (cell 0 0 0) (pos 6)))) pair

points_go_in_order : run_of [] two_points 2 ≡ done (array W64 (pos 6 ∷ pos 0 ∷ []) ∷ []) 0
unfolding int_wrap
points_go_in_order = refl

points_may_go_in_another_order : run_of (1 ∷ 1 ∷ []) two_points 2 ≡ done (array W64 (pos 5 ∷ pos 0 ∷ []) ∷ []) 0
unfolding int_wrap
points_may_go_in_another_order = refl

-- each point is one of two moves until it is finished
the_moves_of_points_are_counted : trace_of [] two_points 2 ≡ (0, 2) ∷ (0, 2) ∷ (0, 1) ∷ (0, 1) ∷ (0, 1) ∷ []
the_moves_of_points_are_counted = refl

-- a pick counts round the moves that there are
a_pick_is_taken_modulo_the_moves : trace_of (3 ∷ 2 ∷ []) two_points 2 ≡ (1, 2) ∷ (0, 2) ∷ (0, 2) ∷ (0, 1) ∷ (0, 1) ∷ []
a_pick_is_taken_modulo_the_moves = refl

a_run_by_picks : Run two_points 2 (1 ∷ 1 ∷ []) (Done (record { memory = array W64 (pos 5 ∷ pos 0 ∷ []) ∷ []; turns = 0 }))
unfolding int_wrap
a_run_by_picks = (6, refl)

a_sequential_run : Sequential two_points 1 Spent
a_sequential_run = (3, refl)

-- after the one pick the leftmost moves are made
a_pick_is_used_once : run_of (1 ∷ []) two_points 2 ≡ done (array W64 (pos 6 ∷ pos 0 ∷ []) ∷ []) 0
unfolding int_wrap
a_pick_is_used_once = refl

-- no outcome comes before the last look at the moves
a_run_takes_its_looks : run 5 (1 ∷ 1 ∷ []) (opening two_points 2) ≡ None
a_run_takes_its_looks = refl

a_map_without_points_has_no_move : trace_of [] (graph (points none) pair) 0 ≡ (0, 1) ∷ []
a_map_without_points_has_no_move = refl

-- ---- items

two_items_go_one_after_the_other : trace_of (1 ∷ 1 ∷ 1 ∷ []) (graph (then (sets 1 (cell 0 0 0) (pos 5)) (sets 2 (cell 0 0 0) (pos 6))) pair) 2 ≡ (0, 1) ∷ (0, 1) ∷ (0, 1) ∷ (0, 1) ∷ (0, 1) ∷ []
two_items_go_one_after_the_other = refl

items_without_order_are_two_moves : trace_of (1 ∷ 1 ∷ []) (graph (list Items unordered (two (sets 1 (cell 0 0 0) (pos 5)) (sets 2 (cell 0 0 0) (pos 6)))) pair) 2 ≡ (1, 2) ∷ (1, 2) ∷ (0, 1) ∷ (0, 1) ∷ (0, 1) ∷ []
items_without_order_are_two_moves = refl

-- an item waits for all that are before it, and for those alone: here only the first one for the last one
abbrev first_before_last : ℕ → ℕ → Bool
first_before_last zero (suc (suc k)) = true
first_before_last zero (suc zero) = false
first_before_last zero zero = false
first_before_last (suc j) k = false

an_item_waits_for_those_before_it : trace_of (1 ∷ 1 ∷ []) (graph (list Items first_before_last
    (also (sets 1 (cell 0 0 0) (pos 5)) (two (sets 2 (cell 0 0 0) (pos 6)) (sets 3 (cell 0 0 0) (pos 7))))) pair) 3
    ≡ (1, 2) ∷ (1, 2) ∷ (0, 1) ∷ (0, 1) ∷ (0, 1) ∷ (0, 1) ∷ (0, 1) ∷ []
an_item_waits_for_those_before_it = refl

-- the orders used here lead from lower to higher numbers, also over a part between
pub parts_in_turn_are_in_order : IsOrder in_turn
parts_in_turn_are_in_order = record { rises = λ j k h. grind (arith, h); passes = λ i j k p q. grind (arith, p, q) }

pub parts_without_order_are_in_order : IsOrder unordered
parts_without_order_are_in_order = record { rises = λ j k h. cc; passes = λ i j k p q. p }

-- a place at which no move is changes nothing
no_move_changes_nothing : step (7 ∷ []) (opening (points (two (sets 1 (cell 0 0 0) (pos 5)) (sets 2 (cell 0 0 0) (pos 6)))) 2)
    ≡ Done (opening (points (two (sets 1 (cell 0 0 0) (pos 5)) (sets 2 (cell 0 0 0) (pos 6)))) 2)
no_move_changes_nothing = refl

-- ---- private containers: each point counts in its own one, which begins at zero, and writes it outside

abbrev pub counts : ℕ → Term ℕ
counts k = owning (array W64 (pos 0 ∷ []) ∷ []) (then
    (task 1 (cell 1 0 k ∷ cell 0 0 0 ∷ []) (λ values. write_value (value_of values 0 +ℤ value_of values 1) (cell 0 0 0) None ∷ []))
    (leaf 2 (copy_of ((cell 0 0 0, cell 1 1 k) ∷ []))))

abbrev pub lists : Memory
lists = array W64 (pos 3 ∷ pos 4 ∷ []) ∷ array W64 (pos 0 ∷ pos 0 ∷ []) ∷ []

private_containers_are_apart : run_of [] (graph (points (two (counts 0) (counts 1))) lists) 2 ≡ done (array W64 (pos 3 ∷ pos 4 ∷ []) ∷ array W64 (pos 3 ∷ pos 4 ∷ []) ∷ []) 0
unfolding int_wrap
private_containers_are_apart = refl

private_containers_are_apart_in_any_order : run_of (0 ∷ 1 ∷ 0 ∷ 1 ∷ 0 ∷ 1 ∷ 1 ∷ 0 ∷ 1 ∷ []) (graph (points (two (counts 0) (counts 1))) lists) 2 ≡ done (array W64 (pos 3 ∷ pos 4 ∷ []) ∷ array W64 (pos 3 ∷ pos 4 ∷ []) ∷ []) 0
unfolding int_wrap
private_containers_are_apart_in_any_order = refl

-- ---- a graph with a loop: a variable counts the rounds and is added up, an element is counted down

abbrev guard : ℕ → List (Option Reference) → (List ℤ → Result Bool FaultKind) → Option (Guard ℕ)
guard line reads holds = Some (record { place = line; reads = reads; holds = holds })

abbrev pub round : ℕ → Values → Term ℕ
round zero values = list Items unordered none
round (suc state) values = then
    (task 1 [] (λ none_read. write_value (value_of values 0) (cell 0 0 1) (Some Sum) ∷ []))
    (task 2 (cell 0 0 0 ∷ []) (λ read. write_value (value_of read 0 -ℤ pos 1) (cell 0 0 0) None ∷ []))

-- from the empty state 0 to state 1, round it while the element is above 0, and on to the empty state 0 no more
abbrev pub leads : ℕ → Values → List (Exit ℕ)
leads zero values = record { when = None; marked = false; state = 1; values = pos 1 ∷ [] } ∷ []
leads (suc state) values = record {
  when = guard 3 (cell 0 0 0 ∷ []) (λ read. Ok (int_lt (pos 0) (value_of read 0)));
  marked = true;
  state = 1;
  values = (value_of values 0 +ℤ pos 1) ∷ [];
} ∷ []

abbrev pub loop : Memory → Term ℕ
loop memory = begun round leads memory []

-- three rounds of two turns, and two turns for the transitions between them
a_loop_runs_until_its_condition_fails : run_of [] (loop (array W64 (pos 3 ∷ pos 0 ∷ []) ∷ [])) 8 ≡ done (array W64 (pos 0 ∷ pos 6 ∷ []) ∷ []) 0
unfolding int_wrap
a_loop_runs_until_its_condition_fails = refl

a_loop_wants_its_turns : run_of [] (loop (array W64 (pos 3 ∷ pos 0 ∷ []) ∷ [])) 7 ≡ spent
unfolding int_wrap
a_loop_wants_its_turns = refl

-- the marked transition is the one that finds no turn
a_marked_transition_spends_a_turn : trace_of [] (loop (array W64 (pos 2 ∷ pos 0 ∷ []) ∷ [])) 2 ≡ (0, 1) ∷ (0, 1) ∷ (0, 1) ∷ (0, 1) ∷ (0, 1) ∷ (0, 1) ∷ (0, 1) ∷ []
unfolding int_wrap
a_marked_transition_spends_a_turn = refl

-- the same as a nested run beside another item: its containers are its own, and its end gives the state on
abbrev pub nested_loop : Term ℕ
nested_loop = graph (list Items unordered (two (loop (array W64 (pos 1 ∷ pos 0 ∷ []) ∷ [])) (sets 4 (cell 0 0 0) (pos 5)))) pair

a_nested_run_keeps_its_containers : run_of [] nested_loop 3 ≡ done (array W64 (pos 5 ∷ pos 0 ∷ []) ∷ []) 0
unfolding int_wrap
a_nested_run_keeps_its_containers = refl

-- its transition is one move, here beside that of the other item
a_nested_transition_is_a_move : trace_of [] nested_loop 3 ≡ (0, 2) ∷ (0, 2) ∷ (0, 2) ∷ (0, 2) ∷ (0, 2) ∷ (0, 2) ∷ (0, 2) ∷ (0, 1) ∷ (0, 1) ∷ (0, 1) ∷ []
unfolding int_wrap
a_nested_transition_is_a_move = refl

-- a nested run that changes a container outside
abbrev nested_write : Term ℕ
nested_write = graph (graph (sets 5 (cell 1 0 1) (pos 9)) []) pair

a_nested_run_changes_what_is_outside : run_of [] nested_write 1 ≡ done (array W64 (pos 0 ∷ pos 9 ∷ []) ∷ []) 0
unfolding int_wrap
a_nested_run_changes_what_is_outside = refl

-- the evaluation and the write inside, the transition inside, the transition outside
a_nested_run_goes_on_until_it_has_ended : trace_of [] nested_write 1 ≡ (0, 1) ∷ (0, 1) ∷ (0, 1) ∷ (0, 1) ∷ []
a_nested_run_goes_on_until_it_has_ended = refl

-- a term that is no run of a graph leaves no memory
points_alone_have_no_memory : run_of [] (points none) 3 ≡ done [] 3
points_alone_have_no_memory = refl

-- its private containers, which nothing is round, are no memory of a run
a_point_alone_leaves_no_memory : run_of [] (owning pair (sets 1 (cell 0 0 0) (pos 5))) 1 ≡ done [] 0
a_point_alone_leaves_no_memory = refl

-- ---- exits

abbrev states : ℕ → Values → Term ℕ
states zero values = list Items unordered none
states (suc zero) values = sets 1 (cell 0 0 0) (pos 1)
states (suc (suc state)) values = sets 2 (cell 0 0 0) (pos 2)

abbrev ways : List (Exit ℕ) → ℕ → Values → List (Exit ℕ)
ways exits zero values = exits
ways exits (suc state) values = []

-- a graph of an empty state 0 with these exits; state 1 writes 1, state 2 writes 2
abbrev branches : List (Exit ℕ) → Term ℕ
branches exits = begun states (ways exits) pair []

-- an exit to this state, where this holds
abbrev way : Bool → ℕ → Exit ℕ
way holds state = record { when = guard 6 [] (λ read. Ok holds); marked = false; state = state; values = [] }

the_first_exit_that_holds_is_taken : run_of [] (branches (way false 1 ∷ way true 2 ∷ way true 1 ∷ [])) 1 ≡ done (array W64 (pos 2 ∷ pos 0 ∷ []) ∷ []) 0
unfolding int_wrap
the_first_exit_that_holds_is_taken = refl

where_no_exit_holds_the_run_ends : run_of [] (branches (way false 1 ∷ [])) 1 ≡ done pair 1
unfolding int_wrap
where_no_exit_holds_the_run_ends = refl

abbrev faulty : Bool → Exit ℕ
faulty marked = record { when = guard 7 [] (λ read. Err Division); marked = marked; state = 1; values = [] }

a_condition_may_fault : run_of [] (branches (way false 1 ∷ faulty false ∷ [])) 1 ≡ faulted 7 Division
a_condition_may_fault = refl

-- later conditions are not evaluated
a_later_condition_does_not_fault : run_of [] (branches (way true 1 ∷ faulty false ∷ [])) 1 ≡ done (array W64 (pos 1 ∷ pos 0 ∷ []) ∷ []) 0
unfolding int_wrap
a_later_condition_does_not_fault = refl

-- the turn of a marked exit is spent after the conditions
a_condition_goes_before_its_turn : run_of [] (branches (faulty true ∷ [])) 0 ≡ faulted 7 Division
a_condition_goes_before_its_turn = refl

-- a condition that reads outside of a container is a fault, whatever it would say
abbrev reads_outside : Exit ℕ
reads_outside = record { when = guard 8 (cell 0 0 0 ∷ None ∷ []) (λ read. Err Division); marked = false; state = 1; values = [] }

a_condition_that_reads_outside_is_a_fault : run_of [] (branches (reads_outside ∷ [])) 1 ≡ faulted 8 Subscript
a_condition_that_reads_outside_is_a_fault = refl

-- elements are read in the order in which the condition names them: here 3 and 4
abbrev rises : Exit ℕ
rises =
    record {
      when = guard 9 (cell 0 0 0 ∷ cell 0 0 1 ∷ []) (λ read. Ok (int_lt (value_of read 0) (value_of read 1)));
      marked = false;
      state = 1;
      values = [];
    }

a_condition_reads_in_order : trace_of [] (begun states (ways (rises ∷ [])) (array W64 (pos 3 ∷ pos 4 ∷ []) ∷ []) []) 1 ≡ (0, 1) ∷ (0, 1) ∷ (0, 1) ∷ (0, 1) ∷ []
a_condition_reads_in_order = refl
