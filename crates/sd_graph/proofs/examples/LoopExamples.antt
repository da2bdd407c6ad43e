-- In which states the variables of loops are in force.
use Rattle.std.proofs.Common.{◌≡◌, ℕ, pos, List, [], ◌∷◌, None, true, false, refl, map}
use Rattle.sd_graph.specs.PlainTree.{ExitTree, no_item, StateTrees, no_state, and_state}
use Rattle.sd_graph.specs.LoopScope.{is_on_loop, loops_in_force}
use Rattle.sd_graph.proofs.examples.ExampleParts.{constant, transition}

-- states without items
abbrev states_of : List (List ExitTree) → StateTrees
states_of [] = no_state
states_of (exits ∷ others) = and_state no_item exits (states_of others)

abbrev to : (state : ℕ) → ExitTree
to state = transition state false None []

-- a variable begins at 0
abbrev enter : (state variable : ℕ) → ExitTree
enter state variable = transition state false None ((variable, constant (pos 0)) ∷ [])

-- a marked transition that sets these variables
abbrev back : (state : ℕ) → (variables : List ℕ) → ExitTree
back state variables = transition state true None (map (λ variable. (variable, constant (pos 1))) variables)

-- ---- one loop: from state 0 into 1, its block 2 and 3, and 4 behind it
abbrev one_loop : StateTrees
one_loop = states_of ((enter 1 0 ∷ []) ∷ (to 2 ∷ to 4 ∷ []) ∷ (to 3 ∷ []) ∷ (back 1 (0 ∷ []) ∷ []) ∷ [] ∷ [])

a_variable_is_in_force_in_its_loop :
    (loops_in_force one_loop 2 0 ≡ []) × (loops_in_force one_loop 2 1 ≡ 0 ∷ []) × (loops_in_force one_loop 2 2 ≡ 0 ∷ []) ×
    (loops_in_force one_loop 2 3 ≡ 0 ∷ []) × (loops_in_force one_loop 2 4 ≡ [])
a_variable_is_in_force_in_its_loop = (refl, refl, refl, refl, refl)

-- a state from which the loop's block is entered past its begin stands on no path from that begin
abbrev entered_past : StateTrees
entered_past = states_of ((to 2 ∷ []) ∷ (to 2 ∷ to 3 ∷ []) ∷ (back 1 (0 ∷ []) ∷ []) ∷ [] ∷ [])

a_state_past_the_begin_is_not_on_the_loop : (is_on_loop entered_past 1 2 0 ≡ false) × (is_on_loop entered_past 1 2 2 ≡ true)
a_state_past_the_begin_is_not_on_the_loop = (refl, refl)

-- ---- one loop in another: the outer begins at 1 with the higher variable, the inner at 2
abbrev two_loops : StateTrees
two_loops = states_of ((enter 1 1 ∷ []) ∷ (enter 2 0 ∷ to 5 ∷ []) ∷ (to 3 ∷ to 4 ∷ []) ∷ (back 2 (0 ∷ []) ∷ []) ∷ (back 1 (1 ∷ []) ∷ []) ∷ [] ∷ [])

-- the outer one stands first, and the inner one is in force in its own loop alone
the_loop_with_the_lower_begin_is_the_outer_one :
    (loops_in_force two_loops 2 3 ≡ 1 ∷ 0 ∷ []) × (loops_in_force two_loops 2 4 ≡ 1 ∷ []) × (loops_in_force two_loops 2 1 ≡ 1 ∷ [])
the_loop_with_the_lower_begin_is_the_outer_one = (refl, refl, refl)

-- of two with one begin the one with the lower number
abbrev two_variables : StateTrees
two_variables = states_of ((to 1 ∷ []) ∷ (back 1 (1 ∷ 0 ∷ []) ∷ []) ∷ [])

of_one_begin_the_lower_number_comes_first : loops_in_force two_variables 2 1 ≡ 0 ∷ 1 ∷ []
of_one_begin_the_lower_number_comes_first = refl

-- a transition without a mark closes no loop, though it sets a variable
a_loop_is_closed_by_a_mark : loops_in_force (states_of ((enter 1 0 ∷ []) ∷ (to 0 ∷ []) ∷ [])) 1 1 ≡ []
a_loop_is_closed_by_a_mark = refl
