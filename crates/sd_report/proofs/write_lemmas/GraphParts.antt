-- The text of a graph: its head and its states, a state and those behind it, a state and the graphs in it, an item and those behind it.
use Rattle.std.proofs.Common.{◌≡◌, Bool, ℕ, suc, ◌+◌, ◌<◌, List, [], ◌∷◌, ◌++◌, map, length, drop, slice_index_or, string_bytes, ap, sym, ◌∙◌, add-one, drop-cons}
use Rattle.sd_graph.specs.ContainerParts.{Containers}
use Rattle.sd_graph.specs.LoopScope.{loops_in_force}
use Rattle.std.proofs.Common.{Vec, Box}
use Rattle.std.specs.declared.alloc.Global.{Global}
use Rattle.sd_range.specs.declared.range.Range.{Range}
use Rattle.sd_graph.specs.PlainTree.{KindTree, map_scope, consume_scope, nested_graph, GraphTree, StateTrees, and_item, and_state}
use Rattle.sd_graph.specs.declared.link.Link.{Link}
use Rattle.sd_graph.specs.declared.graph.ItemKind as shape
use Rattle.sd_graph.specs.declared.graph.ItemKind.{ItemKind}
use Rattle.sd_graph.specs.declared.graph.ItemKind.TheOpen as layer
use Rattle.sd_graph.specs.TreeFold.{PlainItem, PlainState, kind_step, item_step, graph_step, state_step, kind_tree, item_tree, item_trees, state_tree, state_trees, graph_tree, named_container}
use Rattle.sd_graph.specs.declared.graph.Item.{Item}
use Rattle.sd_graph.specs.declared.graph.State.{State}
use Rattle.sd_graph.specs.declared.graph.Sdfg.{Sdfg}
use Rattle.sd_graph.specs.declared.graph.ItemKind.TheViews.{out-Item, out-State, out-Sdfg}
use Rattle.sd_graph.specs.declared.graph.ItemKind.TheFolds.{fold-roll-ItemKind, fold_out-Item}
use Rattle.sd_graph.proofs.TreeLemmas.{graph_opened, state_opened}
use Rattle.sd_wire.specs.declared.loops.span.LoopSpan.{LoopSpan}
use Rattle.sd_wire.specs.loops.Spans.{variables_in}
use Rattle.sd_wire.specs.wiring.Listing.{nodes_of}
use Rattle.sd_print.specs.graphs.StateText.{state_text, order_in, item_params}
use Rattle.sd_print.specs.graphs.GraphText.{head_text, path_line, graph_at, states_at, state_at, nested_nodes, nested_at, kind_at, count_in_kind, count_in_items}

-- a graph's head and its states
pub graph_cut : (g : Sdfg) (path name : List ℕ) (names : List (List ℕ)) (containers : Containers) (states : StateTrees) →
    name ≡ string_bytes (out-Sdfg g).name → names ≡ map string_bytes (out-Sdfg g).variables.items → containers ≡ map named_container (out-Sdfg g).containers.entries → states ≡ state_trees (out-Sdfg g).states.items →
    graph_at (graph_tree g) path ≡ head_text name names containers ++ states_at states names containers states 0 path
graph_cut g path name names containers states name_is names_is containers_is states_is =
    ap (λ (tree : GraphTree). graph_at tree path) (graph_opened g)
    ∙ (λ i. head_text (sym name_is i) (sym names_is i) (sym containers_is i) ++ states_at (sym states_is i) (sym names_is i) (sym containers_is i) (sym states_is i) 0 path)

-- a state and those behind it, the order of whose variables is made of spans
pub states_cut : (names : List (List ℕ)) (containers : Containers) (all : StateTrees) (path : List ℕ) (states : List State) (spans : List LoopSpan) (i number : ℕ) (state : State) →
    i < length states → state ≡ slice_index_or states i state → variables_in spans number ≡ loops_in_force all (length names) number →
    states_at (state_trees (drop i states)) names containers all number path
    ≡ state_at names containers (order_in spans number (state_tree state).0) number (state_tree state).0 (state_tree state).1 path
    ++ states_at (state_trees (drop (i + 1) states)) names containers all (suc number) path
states_cut names containers all path states spans i number state below is shown =
    rw (add-one, drop-cons states i state below)
    (ap (λ (s : State). states_at (and_state (state_tree s).0 (state_tree s).1 (state_trees (drop (suc i) states))) names containers all number path) (sym is)
    ∙ ap (λ (variables : List ℕ). state_at names containers (variables ++ item_params (state_tree state).0) number (state_tree state).0 (state_tree state).1 path
    ++ states_at (state_trees (drop (suc i) states)) names containers all (suc number) path) (sym shown))

-- a state's own text and the graphs nested in it
pub state_cut : (names : List (List ℕ)) (containers : Containers) (order : List ℕ) (number : ℕ) (state : State) (path : List ℕ) (items : List Item) (held here : List ℕ) →
    items ≡ (out-State state).items.items → held ≡ nested_nodes 0 (nodes_of containers (state_tree state).0) → here ≡ path ++ number ∷ [] →
    state_at names containers order number (state_tree state).0 (state_tree state).1 path
    ≡ state_text names containers order number (state_tree state).0 (state_tree state).1 ++ nested_at (item_trees items) held 0 here
state_cut names containers order number state path items held here items_is held_is here_is =
    let plain : (state_tree state).0 ≡ item_trees items = ap (λ (s : PlainState). s.0) (state_opened state) ∙ ap item_trees (sym items_is) in
    λ i. state_text names containers order number (state_tree state).0 (state_tree state).1 ++ nested_at (plain i) (sym held_is i) 0 (sym here_is i)

item_opened : (item : Item) → item_tree item ≡ ((out-Item item).line, kind_tree (out-Item item).kind)
item_opened = fold_out-Item KindTree PlainItem GraphTree PlainState kind_step item_step graph_step state_step

-- the items from one on
pub items_cut : (items : List Item) (i : ℕ) (item : Item) → i < length items → item ≡ slice_index_or items i item →
    item_trees (drop i items) ≡ and_item (out-Item item).line (kind_tree (out-Item item).kind) (item_trees (drop (i + 1) items))
items_cut items i item below is =
    rw (add-one, drop-cons items i item below)
    (ap (λ (x : Item). item_trees (x ∷ drop (suc i) items)) (sym is)
    ∙ ap (λ (first : PlainItem). and_item first.0 first.1 (item_trees (drop (suc i) items))) (item_opened item))

-- the graphs in an item, and in those behind it
pub nested_cut : (items : List Item) (nodes path : List ℕ) (i place next : ℕ) (item : Item) → i < length items → item ≡ slice_index_or items i item → next ≡ place + count_in_kind (kind_tree (out-Item item).kind) →
    nested_at (item_trees (drop i items)) nodes place path ≡ kind_at (kind_tree (out-Item item).kind) nodes place path ++ nested_at (item_trees (drop (i + 1) items)) nodes next path
nested_cut items nodes path i place next item below is next_is =
    ap (λ trees. nested_at trees nodes place path) (items_cut items i item below is)
    ∙ ap (λ count. kind_at (kind_tree (out-Item item).kind) nodes place path ++ nested_at (item_trees (drop (i + 1) items)) nodes count path) (sym next_is)

-- how many graphs are in an item, and in those behind it
pub count_cut : (items : List Item) (i : ℕ) (item : Item) → i < length items → item ≡ slice_index_or items i item →
    count_in_items (item_trees (drop i items)) ≡ count_in_kind (kind_tree (out-Item item).kind) + count_in_items (item_trees (drop (i + 1) items))
count_cut items i item below is = ap count_in_items (items_cut items i item below is)

map_kind : (params : Vec (ℕ × Range) Global) (private : Vec ℕ Global) (body : Vec Item Global) (sequential : Bool) → kind_tree (shape.Map params private body sequential) ≡ map_scope sequential params.items private.items (item_trees body.items)
unfolding shape.roll-ItemKind denote.Hole.Carrier.roll
map_kind params private body sequential = fold-roll-ItemKind KindTree PlainItem GraphTree PlainState kind_step item_step graph_step state_step (layer.Map params private body sequential)

consume_kind : (stream element : ℕ) (private : Vec ℕ Global) (body : Vec Item Global) → kind_tree (shape.Consume stream element private body) ≡ consume_scope stream element private.items (item_trees body.items)
unfolding shape.roll-ItemKind denote.Hole.Carrier.roll
consume_kind stream element private body = fold-roll-ItemKind KindTree PlainItem GraphTree PlainState kind_step item_step graph_step state_step (layer.Consume stream element private body)

nested_kind : (inner : Box Sdfg Global) (links : Vec Link Global) → kind_tree (shape.Nested inner links) ≡ nested_graph (graph_tree inner.value) links.items
unfolding shape.roll-ItemKind denote.Hole.Carrier.roll
nested_kind inner links = fold-roll-ItemKind KindTree PlainItem GraphTree PlainState kind_step item_step graph_step state_step (layer.Nested inner links)

-- the graphs in a map
pub map_cut : (kind : ItemKind) (params : Vec (ℕ × Range) Global) (private : Vec ℕ Global) (body : Vec Item Global) (sequential : Bool) (items : List Item) (nodes path : List ℕ) (place : ℕ) →
    kind ≡ shape.Map params private body sequential → items ≡ body.items → nested_at (item_trees items) nodes place path ≡ kind_at (kind_tree kind) nodes place path
map_cut kind params private body sequential items nodes path place kind_is items_is =
    ap (λ (items : List Item). nested_at (item_trees items) nodes place path) items_is
    ∙ ap (λ (tree : KindTree). kind_at tree nodes place path) (sym (ap kind_tree kind_is ∙ map_kind params private body sequential))

-- the graphs in a consume scope
pub consume_cut : (kind : ItemKind) (stream element : ℕ) (private : Vec ℕ Global) (body : Vec Item Global) (items : List Item) (nodes path : List ℕ) (place : ℕ) →
    kind ≡ shape.Consume stream element private body → items ≡ body.items → nested_at (item_trees items) nodes place path ≡ kind_at (kind_tree kind) nodes place path
consume_cut kind stream element private body items nodes path place kind_is items_is =
    ap (λ (items : List Item). nested_at (item_trees items) nodes place path) items_is
    ∙ ap (λ (tree : KindTree). kind_at tree nodes place path) (sym (ap kind_tree kind_is ∙ consume_kind stream element private body))

-- a nested graph with the line before it
pub inner_cut : (kind : ItemKind) (inner : Box Sdfg Global) (links : Vec Link Global) (g : Sdfg) (nodes path : List ℕ) (place node : ℕ) →
    kind ≡ shape.Nested inner links → g ≡ inner.value → node ≡ slice_index_or nodes place 0 →
    path_line (path ++ node ∷ []) ++ graph_at (graph_tree g) (path ++ node ∷ []) ≡ kind_at (kind_tree kind) nodes place path
inner_cut kind inner links g nodes path place node kind_is g_is node_is =
    (λ i. path_line (path ++ node_is i ∷ []) ++ graph_at (graph_tree (g_is i)) (path ++ node_is i ∷ []))
    ∙ ap (λ (tree : KindTree). kind_at tree nodes place path) (sym (ap kind_tree kind_is ∙ nested_kind inner links))
