-- The text of a graph.
use Rattle.std.specs.Prelude.{ℕ, suc, ◌+◌, List, [], ◌∷◌, ◌++◌, length, codes, Bool, true, false, if◌then◌else◌, slice_index_or}
use Rattle.std.specs.List.{flat_map}
use Rattle.std.specs.Fmt.{decimal}
use Rattle.sd_num.specs.declared.width.Width.{Width}
use Rattle.sd_num.specs.declared.width.Width.TheVariants.{W32, W64}
use Rattle.sd_range.specs.declared.affine.Affine.{Affine}
use Rattle.sd_graph.specs.PlainTree.{KindTree, task, map_scope, consume_scope, nested_graph, reduction, copy, ItemTrees, no_item, and_item, StateTrees, no_state, and_state, ExitTree, GraphTree, graph}
use Rattle.sd_graph.specs.ContainerParts.{Containers, is_stream}
use Rattle.sd_graph.specs.declared.container.Container.{Container}
use Rattle.sd_graph.specs.declared.container.ContainerKind.{ContainerKind}
use Rattle.sd_graph.specs.declared.container.ContainerKind.TheVariants.{Argument, Transient, Private, Stream, PrivateStream}
use Rattle.sd_graph.specs.declared.wired.Node.{Node}
use Rattle.sd_graph.specs.declared.wired.NodeKind.{NodeKind}
use Rattle.sd_graph.specs.declared.wired.NodeKind.TheVariants.{Access, Tasklet, MapEntry, ConsumeEntry, Exit, Nested, Reduce, Copy}
use Rattle.sd_wire.specs.wiring.Listing.{nodes_of}
use Rattle.sd_print.specs.graphs.AffineText.{affine_text}
use Rattle.sd_print.specs.graphs.StateText.{order_of, state_text}

abbrev pub kind_words : ContainerKind → List ℕ
kind_words Argument = codes "array"
kind_words Transient = codes "transient"
kind_words Private = codes "private"
kind_words Stream = codes "stream"
kind_words PrivateStream = codes "private stream"

-- the number of bits behind the word for a kind; nothing for 64
abbrev pub width_text : Width → List ℕ
width_text W32 = codes "32"
width_text W64 = []

-- extents, joined by commas
abbrev pub extents_text : (names : List (List ℕ)) → List Affine → List ℕ
extents_text names [] = []
extents_text names (extent ∷ extents) = affine_text names [] extent ++ flat_map (λ other. codes "," ++ affine_text names [] other) extents

-- the extents of an array in brackets
abbrev pub shape_text : (names : List (List ℕ)) → Container → List ℕ
shape_text names container = if is_stream container.kind then [] else codes "[" ++ (extents_text names container.extents ++ codes "]")

abbrev pub container_text : (names : List (List ℕ)) → List ℕ × Container → List ℕ
container_text names entry = kind_words entry.1.kind ++ (width_text entry.1.width ++ (codes " " ++ (entry.0 ++ (shape_text names entry.1 ++ codes "\n"))))

-- a graph's name and its containers
abbrev pub head_text : (name : List ℕ) → (names : List (List ℕ)) → Containers → List ℕ
head_text name names containers = codes "sdfg " ++ (name ++ (codes "\n" ++ flat_map (container_text names) containers))

-- a path: numbers, joined by dots
abbrev pub path_text : List ℕ → List ℕ
path_text [] = []
path_text (step ∷ steps) = decimal step ++ flat_map (λ other. codes "." ++ decimal other) steps

-- the line before a nested graph
abbrev pub path_line : List ℕ → List ℕ
path_line path = codes "in " ++ (path_text path ++ codes "\n")

abbrev pub is_nested : NodeKind → Bool
is_nested (Access container) = false
is_nested Tasklet = false
is_nested MapEntry = false
is_nested ConsumeEntry = false
is_nested (Exit entry) = false
is_nested Nested = true
is_nested Reduce = false
is_nested Copy = false

-- the numbers of the nodes that hold graphs, the first node having this number
abbrev pub nested_nodes : (number : ℕ) → List Node → List ℕ
nested_nodes number [] = []
nested_nodes number (node ∷ nodes) = (if is_nested node.kind then number ∷ [] else []) ++ nested_nodes (suc number) nodes

-- how many graphs items hold, those in them aside
abbrev mutual
  pub count_in_kind : KindTree → ℕ
  count_in_kind (task code ins outs) = 0
  count_in_kind (map_scope sequential params private body) = count_in_items body
  count_in_kind (consume_scope stream element private body) = count_in_items body
  count_in_kind (nested_graph inner links) = 1
  count_in_kind (reduction resolution axis identity from to) = 0
  count_in_kind (copy from to) = 0

  pub count_in_items : ItemTrees → ℕ
  count_in_items no_item = 0
  count_in_items (and_item line kind items) = count_in_kind kind + count_in_items items

abbrev mutual
  -- a graph at a path: its name, its containers and its states
  pub graph_at : GraphTree → (path : List ℕ) → List ℕ
  graph_at (graph name containers arguments variables symbols states) path =
      head_text name variables containers ++ states_at states variables containers states 0 path

  -- states from this number on, each with the graphs nested in it; the graph has all of these states
  pub states_at : StateTrees → (names : List (List ℕ)) → Containers → (all : StateTrees) → (number : ℕ) → (path : List ℕ) → List ℕ
  states_at no_state names containers all number path = []
  states_at (and_state items exits states) names containers all number path =
      (state_text names containers (order_of all (length names) number items) number items exits
      ++ nested_at items (nested_nodes 0 (nodes_of containers items)) 0 (path ++ number ∷ []))
      ++ states_at states names containers all (suc number) path

  -- the graphs that the items of a state at a path hold, in node order; the nodes that hold graphs are these, from this place on
  pub nested_at : ItemTrees → (nodes : List ℕ) → (place : ℕ) → (path : List ℕ) → List ℕ
  nested_at no_item nodes place path = []
  nested_at (and_item line kind items) nodes place path = kind_at kind nodes place path ++ nested_at items nodes (place + count_in_kind kind) path

  pub kind_at : KindTree → (nodes : List ℕ) → (place : ℕ) → (path : List ℕ) → List ℕ
  kind_at (task code ins outs) nodes place path = []
  kind_at (map_scope sequential params private body) nodes place path = nested_at body nodes place path
  kind_at (consume_scope stream element private body) nodes place path = nested_at body nodes place path
  kind_at (nested_graph inner links) nodes place path =
      path_line (path ++ slice_index_or nodes place 0 ∷ []) ++ graph_at inner (path ++ slice_index_or nodes place 0 ∷ [])
  kind_at (reduction resolution axis identity from to) nodes place path = []
  kind_at (copy from to) nodes place path = []

-- one state with the graphs nested in it
abbrev pub state_at : (names : List (List ℕ)) → Containers → (order : List ℕ) → (number : ℕ) → ItemTrees → List ExitTree → (path : List ℕ) → List ℕ
state_at names containers order number items exits path =
    state_text names containers order number items exits ++ nested_at items (nested_nodes 0 (nodes_of containers items)) 0 (path ++ number ∷ [])

-- the text of a whole graph
abbrev pub graph_text : GraphTree → List ℕ
graph_text g = graph_at g []
