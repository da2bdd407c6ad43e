-- The nodes and edges of a list of items, drawn one item after another.
use Rattle.std.specs.Prelude.{ℕ, ◌-◌, nat_eq, List, [], ◌∷◌, ◌++◌, length, map, Option, Some, None, Bool, true, false, if◌then◌else◌}
use Rattle.std.specs.List.{filter, flat_map, fold}
use Rattle.sd_graph.specs.PlainTree.{KindTree, task, map_scope, consume_scope, nested_graph, reduction, copy, ItemTrees, no_item, and_item}
use Rattle.sd_graph.specs.ContainerParts.{Containers}
use Rattle.sd_graph.specs.Wiring.{Use, has_number, kind_uses, items_conflict}
use Rattle.sd_graph.specs.declared.link.Link.{Link}
use Rattle.sd_graph.specs.declared.wired.Node.{Node}
use Rattle.sd_graph.specs.declared.wired.Edge.{Edge}
use Rattle.sd_graph.specs.declared.wired.NodeKind.{NodeKind}
use Rattle.sd_graph.specs.declared.wired.NodeKind.TheVariants.{Access, Tasklet, MapEntry, ConsumeEntry, Exit, Nested, Reduce, Copy}
use Rattle.sd_wire.specs.declared.wiring.access.Access.TheVariants.{Reads, Writes}
use Rattle.sd_wire.specs.declared.wiring.passing.Passing.{Passing}
use Rattle.sd_wire.specs.declared.wiring.drawing.Drawing.{Drawing}
use Rattle.sd_wire.specs.declared.wiring.drawing.Row.{Row}
use Rattle.sd_wire.specs.declared.wiring.drawing.Earlier.{Earlier}
use Rattle.sd_wire.specs.wiring.Mentioned.{containers_by, passing}

-- a list of items in which nothing is drawn yet: it has no current access node, no earlier item, and nothing leaves its scope
abbrev pub empty_row : Row
empty_row = record { current = []; leaving = []; earlier = [] }

-- nothing drawn
abbrev pub blank : Drawing
blank = record { nodes = []; edges = []; row = empty_row }

-- ---- nodes

-- one more node
abbrev pub with_node : (scope : Option ℕ) → NodeKind → (line : ℕ) → Drawing → Drawing
with_node scope kind line drawing = record drawing { nodes = drawing.nodes ++ record { scope = scope; kind = kind; line = line } ∷ [] }

-- a new access node, now the current one of its container
abbrev pub with_access : (scope : Option ℕ) → (line : ℕ) → Drawing → (container : ℕ) → Drawing
with_access scope line drawing container = record (with_node scope (Access container) line drawing) {
  row = record (drawing.row) { current = drawing.row.current ++ (container, length drawing.nodes) ∷ [] };
}

abbrev pub with_accesses : (scope : Option ℕ) → (line : ℕ) → Drawing → List ℕ → Drawing
with_accesses scope line drawing [] = drawing
with_accesses scope line drawing (container ∷ containers) = with_accesses scope line (with_access scope line drawing container) containers

-- the current access node of a container
abbrev pub current_node : List (ℕ × ℕ) → (container : ℕ) → Option ℕ
current_node current container = fold (λ found entry. if nat_eq entry.0 container then Some entry.1 else found) None current

abbrev pub is_none : Option ℕ → Bool
is_none None = true
is_none (Some node) = false

-- those of a list's own containers
abbrev pub own_among : (own : List ℕ) → List ℕ → List ℕ
own_among own containers = filter (has_number own) containers

-- those without a current access node
abbrev pub without_node : List (ℕ × ℕ) → List ℕ → List ℕ
without_node current containers = filter (λ container. is_none (current_node current container)) containers

-- ---- edges

-- the container of what passes without a link
abbrev pub bare_container : Option Link → (container : ℕ) → Option ℕ
bare_container None container = Some container
bare_container (Some link) container = None

-- an edge for what passes between two nodes: with its link, or for a scope with its container
abbrev pub edge_for : Passing → (from to : ℕ) → Edge
edge_for passing from to = record { from = from; to = to; link = passing.link; container = bare_container passing.link passing.container }

-- an edge that only orders two nodes
abbrev pub order_edge : (from to : ℕ) → Edge
order_edge from to = record { from = from; to = to; link = None; container = None }

-- from where a container comes into an item of a list: from its current access node, or from the enclosing entry where it is not the list's own
abbrev pub source_of : (scope : Option ℕ) → (own : List ℕ) → Row → (container : ℕ) → Option ℕ
source_of scope own row container = if has_number own container then current_node row.current container else scope

abbrev pub with_edge_from : Option ℕ → (to : ℕ) → Passing → Drawing → Drawing
with_edge_from None to passing drawing = drawing
with_edge_from (Some from) to passing drawing = record drawing { edges = drawing.edges ++ edge_for passing from to ∷ [] }

-- one more edge into a node
abbrev pub with_edge_in : (scope : Option ℕ) → (own : List ℕ) → (to : ℕ) → Drawing → Passing → Drawing
with_edge_in scope own to drawing passing = with_edge_from (source_of scope own drawing.row passing.container) to passing drawing

abbrev pub with_edges_in : (scope : Option ℕ) → (own : List ℕ) → (to : ℕ) → Drawing → List Passing → Drawing
with_edges_in scope own to drawing [] = drawing
with_edges_in scope own to drawing (passing ∷ others) = with_edges_in scope own to (with_edge_in scope own to drawing passing) others

-- one more edge to an access node
abbrev pub with_edge_to : Option ℕ → (from : ℕ) → Passing → Drawing → Drawing
with_edge_to None from passing drawing = drawing
with_edge_to (Some to) from passing drawing = record drawing { edges = drawing.edges ++ edge_for passing from to ∷ [] }

-- one more edge that leaves the scope, kept with its entry until the exit is drawn
abbrev pub with_leaving : (scope : Option ℕ) → (from : ℕ) → Passing → Drawing → Drawing
with_leaving None from passing drawing = drawing
with_leaving (Some entry) from passing drawing = record drawing { row = record (drawing.row) { leaving = drawing.row.leaving ++ edge_for passing from entry ∷ [] } }

-- one more edge out of a node: to the access node, or to the enclosing exit where the container is not the list's own
abbrev pub with_edge_out : (scope : Option ℕ) → (own : List ℕ) → (from : ℕ) → Drawing → Passing → Drawing
with_edge_out scope own from drawing passing =
    if has_number own passing.container
    then with_edge_to (current_node drawing.row.current passing.container) from passing drawing
    else with_leaving scope from passing drawing

abbrev pub with_edges_out : (scope : Option ℕ) → (own : List ℕ) → (from : ℕ) → Drawing → List Passing → Drawing
with_edges_out scope own from drawing [] = drawing
with_edges_out scope own from drawing (passing ∷ others) = with_edges_out scope own from (with_edge_out scope own from drawing passing) others

-- the order edges to a node from the last nodes of those earlier items that conflict with its own
abbrev pub order_edges : List Earlier → (to : ℕ) → List Use → List Edge
order_edges earlier to uses = map (λ item. order_edge item.last to) (filter (λ item. items_conflict item.uses uses) earlier)

-- ---- items

-- before an item's nodes: the access nodes of what it reads, and the edges into it
abbrev pub with_reads : KindTree → Containers → (scope : Option ℕ) → (own : List ℕ) → (line : ℕ) → Drawing → Drawing
with_reads kind containers scope own line drawing =
    let read : Drawing = with_accesses scope line drawing (without_node drawing.row.current (own_among own (containers_by Reads (kind_uses kind containers)))) in
    with_edges_in scope own (length read.nodes) read (passing Reads kind containers)

-- behind an item's nodes: the access nodes of what it writes, and the edges out of its last node
abbrev pub with_writes : KindTree → Containers → (scope : Option ℕ) → (own : List ℕ) → (line : ℕ) → (last : ℕ) → Drawing → Drawing
with_writes kind containers scope own line last drawing =
    with_edges_out scope own last (with_accesses scope line drawing (own_among own (containers_by Writes (kind_uses kind containers)))) (passing Writes kind containers)

-- the order edges to an item's first node; the item is then an earlier one
abbrev pub with_order : (first last : ℕ) → List Use → Drawing → Drawing
with_order first last uses drawing = record drawing {
  edges = drawing.edges ++ order_edges drawing.row.earlier first uses;
  row = record (drawing.row) { earlier = drawing.row.earlier ++ record { last = last; uses = uses } ∷ [] };
}

-- behind an item's nodes, of which the last one was drawn just now
abbrev pub with_rest : KindTree → Containers → (scope : Option ℕ) → (own : List ℕ) → (line first : ℕ) → Drawing → Drawing
with_rest kind containers scope own line first drawing =
    with_order first (length drawing.nodes - 1) (kind_uses kind containers) (with_writes kind containers scope own line (length drawing.nodes - 1) drawing)

-- a scope's entry, behind which nothing of its body is drawn yet
abbrev pub entered : (scope : Option ℕ) → NodeKind → (line : ℕ) → Drawing → Drawing
entered scope kind line drawing = record (with_node scope kind line drawing) { row = empty_row }

-- an edge that ends at a node
abbrev pub ending_at : (to : ℕ) → Edge → Edge
ending_at to edge = record edge { to = to }

-- a scope's exit, to which all that leaves its body goes; the list in which the scope stands goes on
abbrev pub left : (scope : Option ℕ) → (entry line : ℕ) → Row → Drawing → Drawing
left scope entry line outer body = record {
  nodes = body.nodes ++ record { scope = scope; kind = Exit entry; line = line } ∷ [];
  edges = body.edges ++ map (ending_at (length body.nodes)) body.row.leaving;
  row = outer;
}

abbrev mutual
  -- an item's own nodes: one, or a scope's entry, those of its body, and its exit
  pub with_nodes_of : KindTree → Containers → (scope : Option ℕ) → (line : ℕ) → Drawing → Drawing
  with_nodes_of (task code ins outs) containers scope line drawing = with_node scope Tasklet line drawing
  with_nodes_of (map_scope sequential params private body) containers scope line drawing =
      left scope (length drawing.nodes) line drawing.row (with_items body containers (Some (length drawing.nodes)) private (entered scope MapEntry line drawing))
  with_nodes_of (consume_scope stream element private body) containers scope line drawing =
      left scope (length drawing.nodes) line drawing.row (with_items body containers (Some (length drawing.nodes)) private (entered scope ConsumeEntry line drawing))
  with_nodes_of (nested_graph inner links) containers scope line drawing = with_node scope Nested line drawing
  with_nodes_of (reduction resolution axis identity from to) containers scope line drawing = with_node scope Reduce line drawing
  with_nodes_of (copy from to) containers scope line drawing = with_node scope Copy line drawing

  -- the items of a list, one after another
  pub with_items : ItemTrees → Containers → (scope : Option ℕ) → (own : List ℕ) → Drawing → Drawing
  with_items no_item containers scope own drawing = drawing
  with_items (and_item line kind items) containers scope own drawing =
      with_items items containers scope own (with_rest kind containers scope own line (length (with_reads kind containers scope own line drawing).nodes)
      (with_nodes_of kind containers scope line (with_reads kind containers scope own line drawing)))

-- one item more: the access nodes of what it reads, its nodes, the access nodes of what it writes, and its edges
abbrev pub with_item : KindTree → Containers → (scope : Option ℕ) → (own : List ℕ) → (line : ℕ) → Drawing → Drawing
with_item kind containers scope own line drawing =
    with_rest kind containers scope own line (length (with_reads kind containers scope own line drawing).nodes)
    (with_nodes_of kind containers scope line (with_reads kind containers scope own line drawing))
