-- The graph at a path: the number of a state and then, from the outermost scope on, the number of each item in its list, to the item in which it is nested.
use Rattle.std.specs.Prelude.{ℕ, zero, suc, List, [], ◌∷◌, Option, Some, None}
use Rattle.sd_graph.specs.PlainTree.{KindTree, task, map_scope, consume_scope, nested_graph, reduction, copy, ItemTrees, no_item, and_item, StateTrees, no_state, and_state, GraphTree, graph}

abbrev mutual
  -- in an item
  pub in_kind : KindTree → (path : List ℕ) → Option GraphTree
  in_kind (task code ins outs) path = None
  in_kind (map_scope sequential params private body) path = in_items body path
  in_kind (consume_scope stream element private body) path = in_items body path
  in_kind (nested_graph inner links) path = graph_at inner path
  in_kind (reduction resolution axis identity from to) path = None
  in_kind (copy from to) path = None

  -- in one of these items, the first of which has the number 0
  pub in_items : ItemTrees → (path : List ℕ) → Option GraphTree
  in_items no_item path = None
  in_items (and_item line kind items) [] = None
  in_items (and_item line kind items) (zero ∷ path) = in_kind kind path
  in_items (and_item line kind items) (suc number ∷ path) = in_items items (number ∷ path)

  -- in one of these states
  pub in_states : StateTrees → (path : List ℕ) → Option GraphTree
  in_states no_state path = None
  in_states (and_state items exits states) [] = None
  in_states (and_state items exits states) (zero ∷ path) = in_items items path
  in_states (and_state items exits states) (suc number ∷ path) = in_states states (number ∷ path)

  -- the graph itself has the empty path
  pub graph_at : GraphTree → (path : List ℕ) → Option GraphTree
  graph_at (graph name containers arguments variables symbols states) [] = Some (graph name containers arguments variables symbols states)
  graph_at (graph name containers arguments variables symbols states) (number ∷ path) = in_states states (number ∷ path)
