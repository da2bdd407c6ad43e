-- A graph in which the graph at a path is another. The path is that of GraphAt: a state and then items in their lists, to the item in which the graph is nested.
use Rattle.std.specs.Prelude.{ℕ, zero, suc, List, [], ◌∷◌}
use Rattle.sd_graph.specs.PlainTree.{KindTree, task, map_scope, consume_scope, nested_graph, reduction, copy, ItemTrees, no_item, and_item, StateTrees, no_state, and_state, GraphTree, graph}

abbrev mutual
  pub kind_changed : (GraphTree → GraphTree) → KindTree → (path : List ℕ) → KindTree
  kind_changed change (task code ins outs) path = task code ins outs
  kind_changed change (map_scope sequential params private body) path = map_scope sequential params private (items_changed change body path)
  kind_changed change (consume_scope stream element private body) path = consume_scope stream element private (items_changed change body path)
  kind_changed change (nested_graph inner links) path = nested_graph (graph_changed change inner path) links
  kind_changed change (reduction resolution axis identity from to) path = reduction resolution axis identity from to
  kind_changed change (copy from to) path = copy from to

  pub items_changed : (GraphTree → GraphTree) → ItemTrees → (path : List ℕ) → ItemTrees
  items_changed change no_item path = no_item
  items_changed change (and_item line kind items) [] = and_item line kind items
  items_changed change (and_item line kind items) (zero ∷ path) = and_item line (kind_changed change kind path) items
  items_changed change (and_item line kind items) (suc number ∷ path) = and_item line kind (items_changed change items (number ∷ path))

  pub states_changed : (GraphTree → GraphTree) → StateTrees → (path : List ℕ) → StateTrees
  states_changed change no_state path = no_state
  states_changed change (and_state items exits states) [] = and_state items exits states
  states_changed change (and_state items exits states) (zero ∷ path) = and_state (items_changed change items path) exits states
  states_changed change (and_state items exits states) (suc number ∷ path) = and_state items exits (states_changed change states (number ∷ path))

  -- the graph itself has the empty path
  pub graph_changed : (GraphTree → GraphTree) → GraphTree → (path : List ℕ) → GraphTree
  graph_changed change (graph name containers arguments variables symbols states) [] = change (graph name containers arguments variables symbols states)
  graph_changed change (graph name containers arguments variables symbols states) (number ∷ path) =
      graph name containers arguments variables symbols (states_changed change states (number ∷ path))

-- the path leads to a graph of which this holds
abbrev mutual
  pub KindHas : (GraphTree → Type 0) → KindTree → (path : List ℕ) → Type 0
  KindHas Holds (task code ins outs) path = ⊥
  KindHas Holds (map_scope sequential params private body) path = ItemsHave Holds body path
  KindHas Holds (consume_scope stream element private body) path = ItemsHave Holds body path
  KindHas Holds (nested_graph inner links) path = GraphHas Holds inner path
  KindHas Holds (reduction resolution axis identity from to) path = ⊥
  KindHas Holds (copy from to) path = ⊥

  pub ItemsHave : (GraphTree → Type 0) → ItemTrees → (path : List ℕ) → Type 0
  ItemsHave Holds no_item path = ⊥
  ItemsHave Holds (and_item line kind items) [] = ⊥
  ItemsHave Holds (and_item line kind items) (zero ∷ path) = KindHas Holds kind path
  ItemsHave Holds (and_item line kind items) (suc number ∷ path) = ItemsHave Holds items (number ∷ path)

  pub StatesHave : (GraphTree → Type 0) → StateTrees → (path : List ℕ) → Type 0
  StatesHave Holds no_state path = ⊥
  StatesHave Holds (and_state items exits states) [] = ⊥
  StatesHave Holds (and_state items exits states) (zero ∷ path) = ItemsHave Holds items path
  StatesHave Holds (and_state items exits states) (suc number ∷ path) = StatesHave Holds states (number ∷ path)

  pub GraphHas : (GraphTree → Type 0) → GraphTree → (path : List ℕ) → Type 0
  GraphHas Holds (graph name containers arguments variables symbols states) [] = Holds (graph name containers arguments variables symbols states)
  GraphHas Holds (graph name containers arguments variables symbols states) (number ∷ path) = StatesHave Holds states (number ∷ path)
