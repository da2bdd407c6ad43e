-- Which transitions lead upwards.
use Rattle.std.proofs.Common.{refl, inl, inr, ℕ, zero, suc, [], ◌∷◌, None, true, false, codes, arith}
use Rattle.sd_graph.specs.PlainTree.{nested_graph, no_item, and_item, no_state, and_state, GraphTree, graph, ExitTree}
use Rattle.sd_graph.specs.TreeParts.{count_states, exits_at, states_of_graph}
use Rattle.sd_graph.specs.Upwards.{ExitsLeadUpwards, LeadsUpwards}
use Rattle.sd_graph.proofs.Among.{false_not_true}
use Rattle.sd_graph.proofs.examples.ExampleParts.{transition}
use Rattle.sd_graph.proofs.examples.GraphExamples.{jac_graph}

-- ---- a loop

jac_exits : (state : ℕ) → ExitsLeadUpwards (count_states (states_of_graph jac_graph)) state (exits_at (states_of_graph jac_graph) state)
jac_exits zero = (inr (omega arith, omega arith), tt)
jac_exits (suc zero) = (inr (omega arith, omega arith), (inr (omega arith, omega arith), tt))
jac_exits (suc (suc zero)) = (inr (omega arith, omega arith), tt)
jac_exits (suc (suc (suc zero))) = (inr (omega arith, omega arith), tt)
jac_exits (suc (suc (suc (suc zero)))) = (inl refl, tt)
jac_exits (suc (suc (suc (suc (suc zero))))) = tt
jac_exits (suc (suc (suc (suc (suc (suc state)))))) = tt

-- its transition back is marked
a_loop_leads_upwards : LeadsUpwards jac_graph
a_loop_leads_upwards = (jac_exits, (tt, (tt, (tt, (((tt, tt), tt), (((tt, tt), tt), (tt, tt)))))))

-- ---- one transition, from the first of two states

abbrev two_states : ExitTree → GraphTree
two_states exit = graph (codes "g") [] 0 [] 0 (and_state no_item (exit ∷ []) (and_state no_item [] no_state))

onward_exits : (state : ℕ) → ExitsLeadUpwards 2 state (exits_at (states_of_graph (two_states (transition 1 false None []))) state)
onward_exits zero = (inr (omega arith, omega arith), tt)
onward_exits (suc zero) = tt
onward_exits (suc (suc state)) = tt

a_higher_state_is_upwards : LeadsUpwards (two_states (transition 1 false None []))
a_higher_state_is_upwards = (onward_exits, (tt, (tt, tt)))

marked_exits : (state : ℕ) → ExitsLeadUpwards 2 state (exits_at (states_of_graph (two_states (transition 0 true None []))) state)
marked_exits zero = (inl refl, tt)
marked_exits (suc zero) = tt
marked_exits (suc (suc state)) = tt

-- one to its own state may be marked
a_marked_transition_goes_anywhere : LeadsUpwards (two_states (transition 0 true None []))
a_marked_transition_goes_anywhere = (marked_exits, (tt, (tt, tt)))

-- without a mark it may not
its_own_state_is_not_upwards : LeadsUpwards (two_states (transition 0 false None [])) → ⊥
its_own_state_is_not_upwards upwards = elim (upwards.0 0).0 [ inl marked ↦ false_not_true marked | inr higher ↦ absurd (omega (arith, higher.0)) ]

-- nor to a state that is not there
a_missing_state_is_not_upwards : LeadsUpwards (two_states (transition 2 false None [])) → ⊥
a_missing_state_is_not_upwards upwards = elim (upwards.0 0).0 [ inl marked ↦ false_not_true marked | inr higher ↦ absurd (omega (arith, higher.1)) ]

-- ---- nested graphs

abbrev around : GraphTree → GraphTree
around inner = graph (codes "h") [] 0 [] 0 (and_state (and_item 1 (nested_graph inner []) no_item) [] no_state)

around_exits : (inner : GraphTree) (state : ℕ) → ExitsLeadUpwards 1 state (exits_at (states_of_graph (around inner)) state)
around_exits inner zero = tt
around_exits inner (suc state) = tt

a_nested_graph_leads_upwards : LeadsUpwards (around (two_states (transition 1 false None [])))
a_nested_graph_leads_upwards = (around_exits (two_states (transition 1 false None [])), ((a_higher_state_is_upwards, tt), tt))

-- one inside counts as well
a_nested_graph_may_not_turn_without_a_mark : LeadsUpwards (around (two_states (transition 0 false None []))) → ⊥
a_nested_graph_may_not_turn_without_a_mark upwards = its_own_state_is_not_upwards upwards.1.0.0
