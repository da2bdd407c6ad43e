-- The scopes of a graph in the order of its states and nodes, depth first, those of a nested graph at its node.
use Rattle.std.specs.Prelude.{ℕ, suc, nat_eq, List, [], ◌∷◌, ◌++◌, Option, Some, None, option_map, Bool, true, false, ◌&&◌, if◌then◌else◌}
use Rattle.sd_subset.specs.boxes.Box.{Parameter}
use Rattle.sd_graph.specs.PlainTree.{KindTree, task, map_scope, consume_scope, nested_graph, reduction, copy, ItemTrees, no_item, and_item, StateTrees, no_state, and_state, GraphTree, graph}
use Rattle.sd_graph.specs.ContainerParts.{Containers}
use Rattle.sd_prop.specs.propagation.ItemNodes.{item_nodes, own_node, nodes_behind, past}
use Rattle.sd_prop.specs.propagation.Accesses.{Access, item_accesses, outside_accesses}

-- what the body of a scope is done for: each point of a map with these parameters, one after another where it is sequential, or each element of a stream
pub data Over : Type 0 where
  points : (sequential : Bool) → (params : List Parameter) → Over
  elements : Over

-- A scope: its path, of states and nodes in turn; the containers of its graph; the parameters of the maps around it, the outermost first;
-- what its body is done for; and the accesses of its body, its own containers left out.
pub record Scope : Type 0 where
  pub path : List ℕ
  pub containers : Containers
  pub around : List Parameter
  pub over : Over
  pub accesses : List Access

-- the parameters of a scope
abbrev pub params_of : Over → List Parameter
params_of (points sequential params) = params
params_of elements = []

-- it is done at points that come one after another
abbrev pub is_sequential : Over → Bool
is_sequential (points sequential params) = sequential
is_sequential elements = false

-- one number more behind a path
abbrev pub further : List ℕ → ℕ → List ℕ
further path number = path ++ number ∷ []

-- a scope that has this body; its own node is the first of these, and those of its body are behind it
abbrev pub scope_of : Over → (own : List ℕ) → (body : ItemTrees) → Containers → (path : List ℕ) → (around : List Parameter) → (nodes : List ℕ) → Scope
scope_of over own body containers path around nodes = record {
  path = further path (own_node nodes);
  containers = containers;
  around = around;
  over = over;
  accesses = outside_accesses own (item_accesses body containers (nodes_behind nodes));
}

-- the scope that an item is
abbrev pub scopes_itself : KindTree → Containers → (path : List ℕ) → (around : List Parameter) → (nodes : List ℕ) → List Scope
scopes_itself (task code ins outs) containers path around nodes = []
scopes_itself (map_scope sequential params private body) containers path around nodes = scope_of (points sequential params) private body containers path around nodes ∷ []
scopes_itself (consume_scope stream element private body) containers path around nodes = scope_of elements (element ∷ private) body containers path around nodes ∷ []
scopes_itself (nested_graph inner links) containers path around nodes = []
scopes_itself (reduction resolution axis identity from to) containers path around nodes = []
scopes_itself (copy from to) containers path around nodes = []

abbrev mutual
  -- those that are in an item
  pub scopes_inside : KindTree → Containers → (path : List ℕ) → (around : List Parameter) → (nodes : List ℕ) → List Scope
  scopes_inside (task code ins outs) containers path around nodes = []
  scopes_inside (map_scope sequential params private body) containers path around nodes = item_scopes body containers path (around ++ params) (nodes_behind nodes)
  scopes_inside (consume_scope stream element private body) containers path around nodes = item_scopes body containers path around (nodes_behind nodes)
  scopes_inside (nested_graph inner links) containers path around nodes = scopes_of inner (further path (own_node nodes))
  scopes_inside (reduction resolution axis identity from to) containers path around nodes = []
  scopes_inside (copy from to) containers path around nodes = []

  -- those of items in a state with this path
  pub item_scopes : ItemTrees → Containers → (path : List ℕ) → (around : List Parameter) → (nodes : List ℕ) → List Scope
  item_scopes no_item containers path around nodes = []
  item_scopes (and_item line kind items) containers path around nodes =
      scopes_itself kind containers path around nodes ++ (scopes_inside kind containers path around nodes ++ item_scopes items containers path around (past kind nodes))

  -- those of the states from this number on
  pub state_scopes : StateTrees → Containers → (path : List ℕ) → (number : ℕ) → List Scope
  state_scopes no_state containers path number = []
  state_scopes (and_state items exits states) containers path number =
      item_scopes items containers (further path number) [] (item_nodes containers items) ++ state_scopes states containers path (suc number)

  -- those of a graph with this path
  pub scopes_of : GraphTree → (path : List ℕ) → List Scope
  scopes_of (graph name containers arguments variables symbols states) path = state_scopes states containers path 0

-- all scopes of a graph
abbrev pub all_scopes : GraphTree → List Scope
all_scopes tree = scopes_of tree []

-- those that stand in a list of a state of the graph itself
abbrev pub scopes_in_list : ItemTrees → Containers → (path : List ℕ) → (nodes : List ℕ) → List Scope
scopes_in_list no_item containers path nodes = []
scopes_in_list (and_item line kind items) containers path nodes = scopes_itself kind containers path [] nodes ++ scopes_in_list items containers path (past kind nodes)

abbrev pub scopes_in_states : StateTrees → Containers → (number : ℕ) → List Scope
scopes_in_states no_state containers number = []
scopes_in_states (and_state items exits states) containers number =
    scopes_in_list items containers (number ∷ []) (item_nodes containers items) ++ scopes_in_states states containers (suc number)

abbrev pub top_scopes : GraphTree → List Scope
top_scopes (graph name containers arguments variables symbols states) = scopes_in_states states containers 0

-- two paths are the same
abbrev pub is_same_path : List ℕ → List ℕ → Bool
is_same_path [] [] = true
is_same_path [] (number ∷ path) = false
is_same_path (number ∷ path) [] = false
is_same_path (number ∷ path) (other ∷ others) = nat_eq number other && is_same_path path others

-- the one with this path
abbrev pub scope_with : (path : List ℕ) → List Scope → Option Scope
scope_with path [] = None
scope_with path (scope ∷ scopes) = if is_same_path path scope.path then Some scope else scope_with path scopes

abbrev pub scope_at : GraphTree → (path : List ℕ) → Option Scope
scope_at tree path = scope_with path (all_scopes tree)

-- the accesses of the scope with a path; there are none where no scope has it
abbrev pub accesses_at : GraphTree → (path : List ℕ) → Option (List Access)
accesses_at tree path = option_map (λ (scope : Scope). scope.accesses) (scope_at tree path)
