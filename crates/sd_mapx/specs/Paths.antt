-- The place to which a path leads. A path names a state, then an item by its node, and in a nested graph on in turn;
-- a place names the state, then the item by its number in each list, from the outermost, and in a nested graph on in turn.
use Rattle.std.specs.Prelude.{ℕ, zero, suc, nat_eq, List, [], ◌∷◌, Option, Some, None, option_map, if◌then◌else◌}
use Rattle.sd_graph.specs.PlainTree.{KindTree, task, map_scope, consume_scope, nested_graph, reduction, copy, ItemTrees, no_item, and_item, StateTrees, no_state, and_state, GraphTree, graph}
use Rattle.sd_graph.specs.ContainerParts.{Containers}
use Rattle.sd_prop.specs.propagation.ItemNodes.{item_nodes, own_node, nodes_behind, past}

-- a number before a place, if there is one
abbrev pub behind : (number : ℕ) → Option (List ℕ) → Option (List ℕ)
behind number place = option_map (λ place. number ∷ place) place

-- the first of two, if there is one
abbrev pub or_else : Option (List ℕ) → Option (List ℕ) → Option (List ℕ)
or_else None other = other
or_else (Some place) other = Some place

-- an item that is no graph has nothing behind it
abbrev pub ended : (path : List ℕ) → Option (List ℕ)
ended [] = Some []
ended (number ∷ path) = None

abbrev mutual
  -- what the rest of a path names behind an item: nothing more, or something in the graph nested in it
  pub place_behind : KindTree → (path : List ℕ) → Option (List ℕ)
  place_behind (task code ins outs) path = ended path
  place_behind (map_scope sequential params private body) path = ended path
  place_behind (consume_scope stream element private body) path = ended path
  place_behind (nested_graph inner links) [] = Some []
  place_behind (nested_graph inner links) (state ∷ path) = place_of inner (state ∷ path)
  place_behind (reduction resolution axis identity from to) path = ended path
  place_behind (copy from to) path = ended path

  -- the item with a node in the body of a scope, whose nodes are these
  pub place_in_body : KindTree → (nodes : List ℕ) → (node : ℕ) → (path : List ℕ) → Option (List ℕ)
  place_in_body (task code ins outs) nodes node path = None
  place_in_body (map_scope sequential params private body) nodes node path = place_among body nodes node path 0
  place_in_body (consume_scope stream element private body) nodes node path = place_among body nodes node path 0
  place_in_body (nested_graph inner links) nodes node path = None
  place_in_body (reduction resolution axis identity from to) nodes node path = None
  place_in_body (copy from to) nodes node path = None

  -- the item with a node among items, the first of which has this number and whose nodes are these, and what the rest of the path names behind it
  pub place_among : ItemTrees → (nodes : List ℕ) → (node : ℕ) → (path : List ℕ) → (number : ℕ) → Option (List ℕ)
  place_among no_item nodes node path number = None
  place_among (and_item line kind items) nodes node path number =
      if nat_eq node (own_node nodes)
      then behind number (place_behind kind path)
      else or_else (behind number (place_in_body kind (nodes_behind nodes) node path)) (place_among items (past kind nodes) node path (suc number))

  -- in the state of this number, the item with a node
  pub place_in_state : StateTrees → Containers → (state : ℕ) → (path : List ℕ) → Option (List ℕ)
  place_in_state no_state containers state path = None
  place_in_state (and_state items exits states) containers zero [] = None
  place_in_state (and_state items exits states) containers zero (node ∷ path) = place_among items (item_nodes containers items) node path 0
  place_in_state (and_state items exits states) containers (suc state) path = place_in_state states containers state path

  -- the place in a graph; none where the path names no item
  pub place_of : GraphTree → (path : List ℕ) → Option (List ℕ)
  place_of (graph name containers arguments variables symbols states) [] = None
  place_of (graph name containers arguments variables symbols states) (state ∷ path) = behind state (place_in_state states containers state path)

-- in a state with these items, the item with a node
abbrev pub place_in_items : ItemTrees → Containers → (path : List ℕ) → Option (List ℕ)
place_in_items items containers [] = None
place_in_items items containers (node ∷ path) = place_among items (item_nodes containers items) node path 0
