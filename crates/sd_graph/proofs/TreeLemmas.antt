-- The plain trees of lists that grow at their end, and of states and graphs that are opened or closed.
use Rattle.std.proofs.Common.{◌≡◌, List, [], ◌∷◌, ◌++◌, map, length, string_bytes, refl, ap, ◌∙◌, arith}
use Rattle.sd_graph.specs.PlainTree.{KindTree, and_item, and_state, GraphTree, graph}
use Rattle.sd_graph.specs.TreeFold.{PlainItem, PlainState, items_listed, states_listed, kind_step, item_step, graph_step, state_step, item_tree, state_tree, graph_tree, item_trees, state_trees, exit_tree, named_container}
use Rattle.sd_graph.specs.TreeParts.{with_item, with_state, count_states}
use Rattle.sd_graph.specs.declared.graph.Item.{Item}
use Rattle.sd_graph.specs.declared.graph.State.{State}
use Rattle.sd_graph.specs.declared.graph.Sdfg.{Sdfg}
use Rattle.sd_graph.specs.declared.graph.ItemKind.{ItemKind}
use Rattle.sd_graph.specs.declared.graph.ItemKind.TheOpen.{State-F, Sdfg-F}
use Rattle.sd_graph.specs.declared.graph.ItemKind.TheViews.{roll-State, out-State, roll-Sdfg, out-Sdfg}
use Rattle.sd_graph.specs.declared.graph.ItemKind.TheFolds.{fold-roll-State, fold_out-State, fold-roll-Sdfg, fold_out-Sdfg}

-- a closed state
pub state_rolled : (state : State-F ItemKind Item Sdfg State) → state_tree (roll-State state) ≡ (item_trees state.items.items, map exit_tree state.exits.items)
state_rolled = fold-roll-State KindTree PlainItem GraphTree PlainState kind_step item_step graph_step state_step

-- an opened state
pub state_opened : (state : State) → state_tree state ≡ (item_trees (out-State state).items.items, map exit_tree (out-State state).exits.items)
state_opened = fold_out-State KindTree PlainItem GraphTree PlainState kind_step item_step graph_step state_step

-- the plain tree of an open graph
abbrev pub graph_made : Sdfg-F ItemKind Item Sdfg State → GraphTree
graph_made g = graph (string_bytes g.name) (map named_container g.containers.entries) g.arguments (map string_bytes g.variables.items) g.symbols (state_trees g.states.items)

-- a closed graph
pub graph_rolled : (g : Sdfg-F ItemKind Item Sdfg State) → graph_tree (roll-Sdfg g) ≡ graph_made g
graph_rolled = fold-roll-Sdfg KindTree PlainItem GraphTree PlainState kind_step item_step graph_step state_step

-- an opened graph
pub graph_opened : (g : Sdfg) → graph_tree g ≡ graph_made (out-Sdfg g)
graph_opened = fold_out-Sdfg KindTree PlainItem GraphTree PlainState kind_step item_step graph_step state_step

pub map_grown : {A B : Type 0} (f : A → B) (members : List A) (member : A) → map f (members ++ member ∷ []) ≡ map f members ++ f member ∷ []
map_grown f [] member = refl
map_grown f (first ∷ members) member = ap (λ rest. f first ∷ rest) (map_grown f members member)

items_listed_grown : (items : List PlainItem) (item : PlainItem) → items_listed (items ++ item ∷ []) ≡ with_item (items_listed items) item.0 item.1
items_listed_grown [] item = refl
items_listed_grown (first ∷ items) item = ap (and_item first.0 first.1) (items_listed_grown items item)

-- one more item
pub items_grown : (items : List Item) (item : Item) → item_trees (items ++ item ∷ []) ≡ with_item (item_trees items) (item_tree item).0 (item_tree item).1
items_grown items item = ap items_listed (map_grown item_tree items item) ∙ items_listed_grown (map item_tree items) (item_tree item)

states_listed_grown : (states : List PlainState) (state : PlainState) → states_listed (states ++ state ∷ []) ≡ with_state (states_listed states) state.0 state.1
states_listed_grown [] state = refl
states_listed_grown (first ∷ states) state = ap (and_state first.0 first.1) (states_listed_grown states state)

-- one more state
pub states_grown : (states : List State) (state : State) → state_trees (states ++ state ∷ []) ≡ with_state (state_trees states) (state_tree state).0 (state_tree state).1
states_grown states state = ap states_listed (map_grown state_tree states state) ∙ states_listed_grown (map state_tree states) (state_tree state)

states_listed_counted : (states : List PlainState) → count_states (states_listed states) ≡ length states
states_listed_counted [] = refl
states_listed_counted (first ∷ states) = omega (arith, states_listed_counted states)

map_length : {A B : Type 0} (f : A → B) (members : List A) → length (map f members) ≡ length members
map_length f [] = refl
map_length f (first ∷ members) = omega (arith, map_length f members)

-- how many states there are
pub states_counted : (states : List State) → count_states (state_trees states) ≡ length states
states_counted states = states_listed_counted (map state_tree states) ∙ map_length state_tree states
