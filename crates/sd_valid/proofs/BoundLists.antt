-- Lists of parts with sizes are the parts' trees with sizes.
use Rattle.std.proofs.Common.{◌≡◌, ℕ, ℤ, List, [], ◌∷◌, map, refl, ap}
use Rattle.sd_graph.specs.PlainTree.{ValueTree, ValueTrees, and_value, ActTree, ActTrees, and_act, ItemTrees, and_item, StateTrees, and_state}
use Rattle.sd_graph.specs.TreeFold.{PlainItem, PlainState, values_listed, acts_listed, items_listed, states_listed}
use Rattle.sd_valid.specs.BoundCode.{bound_value, bound_values, bound_act, bound_acts}
use Rattle.sd_valid.specs.BoundTree.{bound_kind, bound_items, bound_exit, bound_states}

pub values_bound : (sizes : List ℤ) (variables : List ℕ) (values : List ValueTree) → values_listed (map (bound_value sizes variables) values) ≡ bound_values sizes variables (values_listed values)
values_bound sizes variables [] = refl
values_bound sizes variables (value ∷ values) = ap (λ (rest : ValueTrees). and_value (bound_value sizes variables value) rest) (values_bound sizes variables values)

pub acts_bound : (sizes : List ℤ) (variables : List ℕ) (acts : List ActTree) → acts_listed (map (bound_act sizes variables) acts) ≡ bound_acts sizes variables (acts_listed acts)
acts_bound sizes variables [] = refl
acts_bound sizes variables (act ∷ acts) = ap (λ (rest : ActTrees). and_act (bound_act sizes variables act) rest) (acts_bound sizes variables acts)

-- an item with its line
abbrev pub bound_item : (sizes : List ℤ) → PlainItem → PlainItem
bound_item sizes item = (item.0, bound_kind sizes item.1)

-- a state: its items and the transitions out of it
abbrev pub bound_state : (sizes : List ℤ) → PlainState → PlainState
bound_state sizes state = (bound_items sizes state.0, map (bound_exit sizes) state.1)

pub items_bound : (sizes : List ℤ) (items : List PlainItem) → items_listed (map (bound_item sizes) items) ≡ bound_items sizes (items_listed items)
items_bound sizes [] = refl
items_bound sizes (item ∷ items) = ap (λ (rest : ItemTrees). and_item item.0 (bound_kind sizes item.1) rest) (items_bound sizes items)

pub states_bound : (sizes : List ℤ) (states : List PlainState) → states_listed (map (bound_state sizes) states) ≡ bound_states sizes (states_listed states)
states_bound sizes [] = refl
states_bound sizes (state ∷ states) = ap (λ (rest : StateTrees). and_state (bound_items sizes state.0) (map (bound_exit sizes) state.1) rest) (states_bound sizes states)
