-- The boards of a graph: the items of each state, with what workers have to know to run them side by side.
use Rattle.std.specs.Prelude.{ℕ, suc, List, [], ◌∷◌, ◌++◌, map, length, Bool, string_bytes}
use Rattle.sd_graph.specs.ContainerParts.{Containers}
use Rattle.sd_graph.specs.LoopScope.{loops_in_force}
use Rattle.sd_graph.specs.PlainTree.{ItemTrees, no_item, and_item, StateTrees, no_state, and_state, GraphTree, graph}
use Rattle.sd_graph.specs.TreeFold.{item_trees, named_container}
use Rattle.sd_graph.specs.Wiring.{before}
use Rattle.sd_prop.specs.propagation.ItemNodes.{item_nodes, own_node}
use Rattle.sd_order.specs.table.Told.{told}
use Rattle.sd_lower.specs.Hulls.{hulls_of_each}
use Rattle.sd_lower.specs.declared.hulls.Hull.{Hull}
use Rattle.sd_lower.specs.declared.board.BoardWork.{BoardWork}

-- A board: the path of its first item, its items, which of them are before which, what each touches of which container, the containers and
-- variables of the graph, the loop variables in force there from the outermost, and the number of workers.
pub record Board : Type 0 where
  pub at : List ℕ
  pub items : ItemTrees
  pub before : (from to : ℕ) → Bool
  pub hulls : List (List Hull)
  pub containers : Containers
  pub variables : List (List ℕ)
  pub loops : List ℕ
  pub workers : ℕ

-- what the code keeps of a board
abbrev pub plain_board : BoardWork → Board
plain_board work = record {
  at = work.at.steps;
  items = item_trees work.items.items;
  before = told work.before;
  hulls = work.hulls;
  containers = map named_container work.containers.entries;
  variables = map string_bytes work.variables.items;
  loops = work.loops;
  workers = work.workers;
}

-- the path of the first of the items of a state
abbrev pub first_path : (state : ℕ) → Containers → ItemTrees → List ℕ
first_path state containers items = state ∷ own_node (item_nodes containers items) ∷ []

-- the board of the items of a state, in a graph of these containers, variables and states
abbrev pub board_of : Containers → (variables : List (List ℕ)) → StateTrees → (workers state : ℕ) → ItemTrees → Board
board_of containers variables states workers state items = record {
  at = first_path state containers items;
  items = items;
  before = before containers items;
  hulls = hulls_of_each containers items;
  containers = containers;
  variables = variables;
  loops = loops_in_force states (length variables) state;
  workers = workers;
}

-- so it is where a state has an item; a state without items has no board
abbrev pub boards_at : Containers → (variables : List (List ℕ)) → StateTrees → (workers state : ℕ) → ItemTrees → List Board
boards_at containers variables states workers state no_item = []
boards_at containers variables states workers state (and_item line kind items) = board_of containers variables states workers state (and_item line kind items) ∷ []

-- those of the states from this number on, in a graph of all these states
abbrev pub boards_from : Containers → (variables : List (List ℕ)) → (all : StateTrees) → (workers number : ℕ) → StateTrees → List Board
boards_from containers variables all workers number no_state = []
boards_from containers variables all workers number (and_state items exits states) =
    boards_at containers variables all workers number items ++ boards_from containers variables all workers (suc number) states

-- those of a graph's own states
abbrev pub boards_of : GraphTree → (workers : ℕ) → List Board
boards_of (graph name containers arguments variables symbols states) workers = boards_from containers variables states workers 0 states
