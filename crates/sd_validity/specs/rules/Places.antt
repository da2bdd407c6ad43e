-- The places of a graph at which its rules are asked, in their order.
use Rattle.std.specs.Prelude.{ℕ, suc, List, [], ◌∷◌, ◌++◌, map, length, Bool}
use Rattle.sd_range.specs.declared.range.Range.{Range}
use Rattle.sd_graph.specs.PlainTree.{KindTree, task, map_scope, consume_scope, nested_graph, reduction, copy, ItemTrees, no_item, and_item, StateTrees, no_state, and_state, GraphTree, graph, ExitTree}
use Rattle.sd_graph.specs.TreeParts.{states_of_graph}
use Rattle.sd_graph.specs.LoopScope.{loops_in_force}
use Rattle.sd_validity.specs.rules.GraphParts.{variables_of}
use Rattle.sd_wire.specs.loops.About.{loops_about}
use Rattle.sd_validity.specs.rules.Ranks.{ranks_of}

-- what stands at a place: a graph as a whole, a state's items with the transitions out of it, or an item
pub data Thing : Type 0 where
  whole : Thing
  leaving : (items : ItemTrees) → (exits : List ExitTree) → Thing
  doing : KindTree → Thing

-- the scopes about an item: how many there are, their private containers with the elements, and their parameters
pub record Scopes : Type 0 where
  pub count : ℕ
  pub private : List ℕ
  pub params : List ℕ

abbrev pub no_scopes : Scopes
no_scopes = record { count = 0; private = []; params = [] }

-- A place: its path, in which an item stands by its number in its list, behind those of the scopes about it; the graph in which it stands,
-- with the path of that graph, the number of graphs about it, and which of its variables have a rank; the state, with the loop variables in force
-- in it and the number of loops about it; the scopes about it; and what stands there.
pub record Place : Type 0 where
  pub path : List ℕ
  pub graph : GraphTree
  pub graph_path : List ℕ
  pub depth : ℕ
  pub ranks : List Bool
  pub state : ℕ
  pub loops : List ℕ
  pub loop_count : ℕ
  pub scopes : Scopes
  pub thing : Thing

abbrev pub param_numbers : List (ℕ × Range) → List ℕ
param_numbers params = map (λ param. param.0) params

-- in the body of a map, and of a consume scope
abbrev pub in_map : Scopes → (params : List (ℕ × Range)) → (private : List ℕ) → Scopes
in_map scopes params private = record { count = suc scopes.count; private = private ++ scopes.private; params = param_numbers params ++ scopes.params }

abbrev pub in_consume : Scopes → (element : ℕ) → (private : List ℕ) → Scopes
in_consume scopes element private = record { count = suc scopes.count; private = (element ∷ private) ++ scopes.private; params = scopes.params }

-- the loop variables in force in a state
abbrev pub loops_at : GraphTree → (state : ℕ) → List ℕ
loops_at tree state = loops_in_force (states_of_graph tree) (length (variables_of tree)) state

-- one number more behind a path
abbrev pub further : List ℕ → ℕ → List ℕ
further path number = path ++ number ∷ []

-- the place of a graph as a whole
abbrev pub graph_place : GraphTree → (path : List ℕ) → (depth : ℕ) → Place
graph_place tree path depth = record {
  path = path;
  graph = tree;
  graph_path = path;
  depth = depth;
  ranks = ranks_of tree;
  state = 0;
  loops = [];
  loop_count = 0;
  scopes = no_scopes;
  thing = whole;
}

-- of a state of it
abbrev pub state_place : Place → (number : ℕ) → ItemTrees → List ExitTree → Place
state_place around number items exits = record around {
  path = further around.path number;
  state = number;
  loops = loops_at around.graph number;
  loop_count = loops_about (states_of_graph around.graph) number;
  thing = leaving items exits;
}

-- of an item of a list of it
abbrev pub item_place : Place → (scopes : Scopes) → (number : ℕ) → KindTree → Place
item_place around scopes number kind = record around { path = further around.path number; scopes = scopes; thing = doing kind }

-- A graph goes before its states, a state with its transitions before its items, items in order, and each before what is in it.
abbrev mutual
  -- what is in an item
  pub places_in : KindTree → Place → List Place
  places_in (task code ins outs) place = []
  places_in (map_scope sequential params private body) place = item_places body place (in_map place.scopes params private) 0
  places_in (consume_scope stream element private body) place = item_places body place (in_consume place.scopes element private) 0
  places_in (nested_graph inner links) place = places_of inner place.path (suc place.depth)
  places_in (reduction resolution axis identity from to) place = []
  places_in (copy from to) place = []

  -- the items from this number on of a list
  pub item_places : ItemTrees → (around : Place) → Scopes → (number : ℕ) → List Place
  item_places no_item around scopes number = []
  item_places (and_item line kind items) around scopes number =
      item_place around scopes number kind ∷ (places_in kind (item_place around scopes number kind) ++ item_places items around scopes (suc number))

  -- the states from this number on of a graph
  pub state_places : StateTrees → (around : Place) → (number : ℕ) → List Place
  state_places no_state around number = []
  state_places (and_state items exits states) around number =
      state_place around number items exits ∷ (item_places items (state_place around number items exits) no_scopes 0 ++ state_places states around (suc number))

  -- a graph with its path and the number of graphs about it
  pub places_of : GraphTree → (path : List ℕ) → (depth : ℕ) → List Place
  places_of (graph name containers arguments variables symbols states) path depth =
      graph_place (graph name containers arguments variables symbols states) path depth
      ∷ state_places states (graph_place (graph name containers arguments variables symbols states) path depth) 0

-- those of an item, and of a state, alone
abbrev pub places_at_item : (around : Place) → Scopes → (number : ℕ) → KindTree → List Place
places_at_item around scopes number kind = item_place around scopes number kind ∷ places_in kind (item_place around scopes number kind)

abbrev pub places_at_state : (around : Place) → (number : ℕ) → ItemTrees → List ExitTree → List Place
places_at_state around number items exits = state_place around number items exits ∷ item_places items (state_place around number items exits) no_scopes 0

-- the places of a whole graph
abbrev pub all_places : GraphTree → List Place
all_places tree = places_of tree [] 0
