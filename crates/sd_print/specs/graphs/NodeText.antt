-- The texts of nodes.
use Rattle.std.specs.Prelude.{ℕ, suc, ℤ, List, [], ◌∷◌, ◌++◌, codes, Option, Some, None, Bool, true, false, if◌then◌else◌}
use Rattle.std.specs.List.{flat_map}
use Rattle.std.specs.Fmt.{decimal, signed_decimal}
use Rattle.sd_num.specs.declared.resolution.Resolution.{Resolution}
use Rattle.sd_range.specs.declared.range.Range.{Range}
use Rattle.sd_graph.specs.PlainTree.{KindTree, task, map_scope, consume_scope, nested_graph, reduction, copy, ItemTrees, no_item, and_item, GraphTree, graph}
use Rattle.sd_graph.specs.ContainerParts.{Containers, name_at}
use Rattle.sd_graph.specs.declared.wired.Node.{Node}
use Rattle.sd_graph.specs.declared.wired.NodeKind.{NodeKind}
use Rattle.sd_graph.specs.declared.wired.NodeKind.TheVariants.{Access, Tasklet, MapEntry, ConsumeEntry, Exit, Nested, Reduce, Copy}
use Rattle.sd_print.specs.graphs.AffineText.{variable_name}
use Rattle.sd_print.specs.graphs.SubsetText.{range_text}
use Rattle.sd_print.specs.graphs.LinkText.{resolution_word}

-- the name of a graph
abbrev pub graph_name : GraphTree → List ℕ
graph_name (graph name containers arguments variables symbols states) = name

abbrev pub axis_text : Option ℕ → List ℕ
axis_text None = []
axis_text (Some axis) = codes " axis " ++ decimal axis

abbrev pub identity_text : Option ℤ → List ℕ
identity_text None = []
identity_text (Some identity) = codes " identity " ++ signed_decimal identity

abbrev pub reduction_text : Resolution → (axis : Option ℕ) → (identity : Option ℤ) → List ℕ
reduction_text resolution axis identity = codes "reduce " ++ (resolution_word resolution ++ (axis_text axis ++ identity_text identity))

-- the word behind the parameters of a sequential map
abbrev pub sequential_text : (sequential : Bool) → List ℕ
sequential_text true = codes " sequential"
sequential_text false = []

module _ (names : List (List ℕ)) (order : List ℕ) where
  -- a parameter with its range
  abbrev pub param_text : ℕ × Range → List ℕ
  param_text param = variable_name names param.0 ++ (codes "=" ++ range_text names order param.1)

  abbrev pub params_text : List (ℕ × Range) → List ℕ
  params_text [] = []
  params_text (param ∷ params) = param_text param ++ flat_map (λ other. codes ", " ++ param_text other) params

  abbrev pub map_text : (sequential : Bool) → List (ℕ × Range) → List ℕ
  map_text sequential params = codes "map " ++ (params_text params ++ sequential_text sequential)

module _ (names : List (List ℕ)) (containers : Containers) (order : List ℕ) where
  -- what the node of an item shows, for a scope its entry
  abbrev pub label : (line : ℕ) → KindTree → List ℕ
  label line (task code ins outs) = codes "tasklet line " ++ decimal line
  label line (map_scope sequential params private body) = map_text names order sequential params
  label line (consume_scope stream element private body) = codes "consume " ++ (name_at containers stream ++ (codes " as " ++ name_at containers element))
  label line (nested_graph inner links) = codes "nested " ++ graph_name inner
  label line (reduction resolution axis identity from to) = reduction_text resolution axis identity
  label line (copy from to) = codes "copy"

  -- what the nodes of items show, depth first
  abbrev mutual
    pub body_labels : KindTree → List (List ℕ)
    body_labels (task code ins outs) = []
    body_labels (map_scope sequential params private body) = labels body
    body_labels (consume_scope stream element private body) = labels body
    body_labels (nested_graph inner links) = []
    body_labels (reduction resolution axis identity from to) = []
    body_labels (copy from to) = []

    pub labels : ItemTrees → List (List ℕ)
    labels no_item = []
    labels (and_item line kind items) = label line kind ∷ (body_labels kind ++ labels items)

-- the entry of the scope round a node
abbrev pub scope_text : Option ℕ → List ℕ
scope_text None = []
scope_text (Some entry) = codes " in " ++ decimal entry

-- the node is an item's: neither an access nor an exit
abbrev pub is_item : NodeKind → Bool
is_item (Access container) = false
is_item Tasklet = true
is_item MapEntry = true
is_item ConsumeEntry = true
is_item (Exit entry) = false
is_item Nested = true
is_item Reduce = true
is_item Copy = true

abbrev pub first_label : List (List ℕ) → List ℕ
first_label [] = []
first_label (first ∷ labels) = first

abbrev pub rest_of : List (List ℕ) → List (List ℕ)
rest_of [] = []
rest_of (first ∷ labels) = labels

-- what a node shows: an access node its container, an exit its entry, each other one the first of these labels
abbrev pub shown_text : Containers → NodeKind → (labels : List (List ℕ)) → List ℕ
shown_text containers (Access container) labels = codes "access " ++ name_at containers container
shown_text containers Tasklet labels = first_label labels
shown_text containers MapEntry labels = first_label labels
shown_text containers ConsumeEntry labels = first_label labels
shown_text containers (Exit entry) labels = codes "exit " ++ decimal entry
shown_text containers Nested labels = first_label labels
shown_text containers Reduce labels = first_label labels
shown_text containers Copy labels = first_label labels

-- the labels behind a node
abbrev pub labels_behind : NodeKind → (labels : List (List ℕ)) → List (List ℕ)
labels_behind kind labels = if is_item kind then rest_of labels else labels

abbrev pub node_text : Containers → (number : ℕ) → Node → (labels : List (List ℕ)) → List ℕ
node_text containers number node labels =
    codes "node " ++ (decimal number ++ (scope_text node.scope ++ (codes " " ++ (shown_text containers node.kind labels ++ codes "\n"))))

-- nodes from this number on; those that are neither an access nor an exit are the items in order
abbrev pub nodes_text : Containers → (number : ℕ) → List Node → (labels : List (List ℕ)) → List ℕ
nodes_text containers number [] labels = []
nodes_text containers number (node ∷ nodes) labels =
    node_text containers number node labels ++ nodes_text containers (suc number) nodes (labels_behind node.kind labels)
