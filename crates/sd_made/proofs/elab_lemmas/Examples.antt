-- States whose loops have not the right shape.
use Rattle.std.proofs.Common.{inl, inr, pos, List, [], ◌∷◌, refl, sym}
use Rattle.sd_graph.specs.PlainTree.{no_item, ExitTree, StateTrees, no_state, and_state}
use Rattle.sd_graph.proofs.Among.{false_not_true}
use Rattle.sd_elab.specs.states.Exits.{plainly, setting, back_to}
use Rattle.sd_made.specs.elab.LoopShape.{HasLoopShape}
use Rattle.sd_made.specs.elab.EnteredLoops.{HasEnteredLoops}

-- states without items
abbrev states_of : List (List ExitTree) → StateTrees
states_of [] = no_state
states_of (exits ∷ others) = and_state no_item exits (states_of others)

-- a variable that is set where no loop begins
a_variable_is_set_into_its_loop : HasLoopShape (states_of ((setting 1 0 (record { constant = pos 0; terms = [] }) ∷ []) ∷ [] ∷ [])) → ⊥
a_variable_is_set_into_its_loop shape = (shape.1 0).0.0.1

-- a loop without a condition on its variable
a_loop_has_an_end : HasLoopShape (states_of ((setting 1 0 (record { constant = pos 0; terms = [] }) ∷ []) ∷ (plainly 2 ∷ plainly 2 ∷ []) ∷ [] ∷ [])) → ⊥
a_loop_has_an_end shape = (shape.1 0).0.0.1.0

-- a loop whose block is entered from state 0 past its begin
a_loop_is_entered_at_its_begin : HasEnteredLoops (states_of ((plainly 2 ∷ []) ∷ (plainly 2 ∷ plainly 3 ∷ []) ∷ (back_to 1 [] ∷ []) ∷ [] ∷ [])) → ⊥
a_loop_is_entered_at_its_begin entered = elim ((entered 2).0 refl).0 [ inl zero_begin ↦ cc | inr none ↦ false_not_true (sym none) ]

-- a loop from whose second transition its block is entered
a_loop_is_left_by_its_second_transition : HasEnteredLoops (states_of ((plainly 1 ∷ []) ∷ (plainly 3 ∷ plainly 2 ∷ []) ∷ (back_to 1 [] ∷ []) ∷ [] ∷ [])) → ⊥
a_loop_is_left_by_its_second_transition entered = false_not_true (sym ((entered 2).0 refl).1)

-- a loop from whose begin no second transition leads
a_loop_has_two_ways : HasEnteredLoops (states_of ((plainly 1 ∷ []) ∷ (back_to 1 [] ∷ []) ∷ [])) → ⊥
a_loop_has_two_ways entered = (entered 1).0 refl
