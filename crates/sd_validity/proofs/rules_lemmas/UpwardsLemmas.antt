-- Where rule 3 holds, each transition without a mark leads to a higher state that is there.
use Rattle.std.proofs.Common.{◌≡◌, ◌⊎◌, ◌<◌, ◌+◌, inl, inr, ℕ, zero, suc, nat_lt, List, [], ◌∷◌, ◌++◌, Bool, true, false, not, ◌&&◌, if◌then◌else◌, refl, subst, arith}
use Rattle.std.specs.List.{list_all}
use Rattle.sd_graph.specs.PlainTree.{KindTree, task, map_scope, consume_scope, nested_graph, reduction, copy, ItemTrees, no_item, and_item, StateTrees, no_state, and_state, GraphTree, graph, ExitTree}
use Rattle.sd_graph.specs.TreeParts.{states_of_graph, count_states, exits_at}
use Rattle.sd_graph.specs.Upwards.{ExitsLeadUpwards, KindLeadsUpwards, ItemsLeadUpwards, StatesLeadUpwards, LeadsUpwards}
use Rattle.sd_validity.specs.rules.Places.{Place, Scopes, no_scopes, in_map, in_consume, item_place, state_place, graph_place, places_in, item_places, state_places, places_of, all_places}
use Rattle.sd_validity.specs.rules.Transitions.{leads_right, is_exit_right, sets_loop_variable, are_transitions_right, agree, begins_at, begins_before, rule_3}
use Rattle.sd_validity.specs.rules.Failing.{Holds}
use Rattle.sd_validity.proofs.rules_lemmas.HoldingLemmas.{both, parts, each_passes}

lead_up : (count state : ℕ) (exit : ExitTree) (back : Bool) → exit.back ≡ back → (nat_lt exit.to count && (if back then not (nat_lt state exit.to) else nat_lt state exit.to)) ≡ true →
    (exit.back ≡ true) ⊎ ((state < exit.to) × (exit.to < count))
lead_up count state exit true back is = inl back
lead_up count state exit false back is =
    let split = both (nat_lt exit.to count) (nat_lt state exit.to) is in
    inr (grind (arith, split.1), grind (arith, split.0))

exits_lead_up : (states : StateTrees) (state : ℕ) (exits : List ExitTree) → list_all (is_exit_right states state) exits ≡ true → ExitsLeadUpwards (count_states states) state exits
exits_lead_up states state [] is = tt
exits_lead_up states state (exit ∷ exits) is =
    let split = both (is_exit_right states state exit) (list_all (is_exit_right states state) exits) is in
    let own = both (leads_right (count_states states) state exit) (list_all (sets_loop_variable states state exit) exit.set) split.0 in
    (lead_up (count_states states) state exit exit.back refl own.0, exits_lead_up states state exits split.1)

abbrev transitions_pass : Place → Bool
transitions_pass place = are_transitions_right (states_of_graph place.graph) place.state place.thing

-- the transitions of states from a number on
state_leads_up : (states : StateTrees) (around : Place) (number : ℕ) → list_all transitions_pass (state_places states around number) ≡ true →
    (state : ℕ) → ExitsLeadUpwards (count_states (states_of_graph around.graph)) (number + state) (exits_at states state)
state_leads_up no_state around number is state = tt
state_leads_up (and_state items exits states) around number is zero =
    let place = state_place around number items exits in
    let first = both (transitions_pass place) (list_all transitions_pass (item_places items place no_scopes 0 ++ state_places states around (suc number))) is in
    let all = states_of_graph around.graph in
    let same : number ≡ number + 0 = omega arith in
    subst (λ (state : ℕ). ExitsLeadUpwards (count_states all) state exits) same (exits_lead_up all number exits first.0)
state_leads_up (and_state items exits states) around number is (suc state) =
    let place = state_place around number items exits in
    let first = both (transitions_pass place) (list_all transitions_pass (item_places items place no_scopes 0 ++ state_places states around (suc number))) is in
    let rest = parts transitions_pass (item_places items place no_scopes 0) (state_places states around (suc number)) first.1 in
    let same : suc number + state ≡ number + suc state = omega arith in
    subst (λ (at : ℕ). ExitsLeadUpwards (count_states (states_of_graph around.graph)) at (exits_at states state)) same (state_leads_up states around (suc number) rest.1 state)

-- those of all states
from_first : (count : ℕ) (states : StateTrees) → ((state : ℕ) → ExitsLeadUpwards count (0 + state) (exits_at states state)) → (state : ℕ) → ExitsLeadUpwards count state (exits_at states state)
from_first count states lead state =
    let same : 0 + state ≡ state = omega arith in
    subst (λ (at : ℕ). ExitsLeadUpwards count at (exits_at states state)) same (lead state)

mutual
  kind_leads_up : (kind : KindTree) (place : Place) → list_all transitions_pass (places_in kind place) ≡ true → KindLeadsUpwards kind
  kind_leads_up (task code ins outs) place inside = tt
  kind_leads_up (map_scope sequential params private body) place inside = items_lead_up body place (in_map place.scopes params private) 0 inside
  kind_leads_up (consume_scope stream element private body) place inside = items_lead_up body place (in_consume place.scopes element private) 0 inside
  kind_leads_up (nested_graph inner links) place inside = graph_leads_up inner place.path (suc place.depth) inside
  kind_leads_up (reduction resolution axis identity from to) place inside = tt
  kind_leads_up (copy from to) place inside = tt

  items_lead_up : (items : ItemTrees) (around : Place) (scopes : Scopes) (number : ℕ) → list_all transitions_pass (item_places items around scopes number) ≡ true → ItemsLeadUpwards items
  items_lead_up no_item around scopes number is = tt
  items_lead_up (and_item line kind items) around scopes number is =
      let place = item_place around scopes number kind in
      let first = both (transitions_pass place) (list_all transitions_pass (places_in kind place ++ item_places items around scopes (suc number))) is in
      let rest = parts transitions_pass (places_in kind place) (item_places items around scopes (suc number)) first.1 in
      (kind_leads_up kind place rest.0, items_lead_up items around scopes (suc number) rest.1)

  states_lead_up : (states : StateTrees) (around : Place) (number : ℕ) → list_all transitions_pass (state_places states around number) ≡ true → StatesLeadUpwards states
  states_lead_up no_state around number is = tt
  states_lead_up (and_state items exits states) around number is =
      let place = state_place around number items exits in
      let first = both (transitions_pass place) (list_all transitions_pass (item_places items place no_scopes 0 ++ state_places states around (suc number))) is in
      let rest = parts transitions_pass (item_places items place no_scopes 0) (state_places states around (suc number)) first.1 in
      (items_lead_up items place no_scopes 0 rest.0, states_lead_up states around (suc number) rest.1)

  graph_leads_up : (tree : GraphTree) (path : List ℕ) (depth : ℕ) → list_all transitions_pass (places_of tree path depth) ≡ true → LeadsUpwards tree
  graph_leads_up (graph name containers arguments variables symbols states) path depth is =
      let around = graph_place (graph name containers arguments variables symbols states) path depth in
      (from_first (count_states states) states (state_leads_up states around 0 is), states_lead_up states around 0 is)

three_implies : (before : List Place) (place : Place) → rule_3 before place ≡ true → transitions_pass place ≡ true
three_implies before place is =
    (both (transitions_pass place) (agree (begins_before before place) (begins_at place.thing)) is).0

pub leads_upwards : (tree : GraphTree) → Holds rule_3 tree → LeadsUpwards tree
leads_upwards tree holds = graph_leads_up tree [] 0 (each_passes rule_3 transitions_pass three_implies [] (all_places tree) holds)
