-- The nodes that are drawn for the items of a list, counted.
use Rattle.std.proofs.Common.{◌≡◌, ◌∙◌, ℕ, ◌+◌, ◌-◌, List, [], ◌∷◌, ◌++◌, length, map, nat_eq, Option, Some, None, Bool, true, false, not, ◌&&◌, ◌||◌, if◌then◌else◌, refl, ap, sym, arith, append_assoc, append-nil, length-append}
use Rattle.std.specs.List.{filter, fold}
use Rattle.sd_graph.specs.PlainTree.{KindTree, task, map_scope, consume_scope, nested_graph, reduction, copy, ItemTrees, no_item, and_item}
use Rattle.sd_graph.specs.ContainerParts.{Containers}
use Rattle.sd_graph.specs.Wiring.{has_number, kind_uses}
use Rattle.sd_graph.specs.declared.wired.NodeKind.{NodeKind}
use Rattle.sd_graph.specs.declared.wired.NodeKind.TheVariants.{Access, Tasklet, MapEntry, ConsumeEntry, Exit, Nested, Reduce, Copy}
use Rattle.sd_wire.specs.declared.wiring.access.Access.TheVariants.{Reads, Writes}
use Rattle.sd_wire.specs.declared.wiring.passing.Passing.{Passing}
use Rattle.sd_wire.specs.declared.wiring.drawing.Drawing.{Drawing}
use Rattle.sd_wire.specs.wiring.Mentioned.{containers_by, passing}
use Rattle.sd_wire.specs.wiring.Drawing.{with_node, with_access, with_accesses, current_node, is_none, own_among, without_node, source_of, with_edge_from, with_edge_in, with_edges_in, with_edge_to, with_leaving, with_edge_out, with_edges_out, with_reads, with_writes, with_rest, entered, left, with_nodes_of, with_items}
use Rattle.sd_made.specs.counted.Drawn.{read_anew, written, current_behind, item_nodes, list_nodes}

-- the containers with a current access node
abbrev pub current_of : Drawing → List ℕ
current_of drawing = map (λ entry. entry.0) drawing.row.current

-- ---- containers without a current access node

same_number : (m n : ℕ) → nat_eq m n ≡ nat_eq n m
same_number m n = grind arith

one_found : (same other : Bool) (node : ℕ) (found : Option ℕ) (rest : Bool) → same ≡ other → (is_none (if same then Some node else found) && not rest) ≡ (is_none found && not (other || rest))
one_found true true node found rest e = both (is_none found)
  where
    both : (none : Bool) → false ≡ (none && false)
    both true = refl
    both false = refl
one_found true false node found rest e = cc
one_found false true node found rest e = cc
one_found false false node found rest e = refl

none_found : (current : List (ℕ × ℕ)) (container : ℕ) (found : Option ℕ) →
    is_none (fold (λ found entry. if nat_eq entry.0 container then Some entry.1 else found) found current) ≡ (is_none found && not (has_number (map (λ entry. entry.0) current) container))
none_found [] container found = and_true (is_none found)
  where
    and_true : (none : Bool) → none ≡ (none && true)
    and_true true = refl
    and_true false = refl
none_found (entry ∷ current) container found =
    none_found current container (if nat_eq entry.0 container then Some entry.1 else found)
    ∙ one_found (nat_eq entry.0 container) (nat_eq container entry.0) entry.1 found (has_number (map (λ entry. entry.0) current) container) (same_number entry.0 container)

filtered_alike : (test other : ℕ → Bool) → ((number : ℕ) → test number ≡ other number) → (numbers : List ℕ) → filter test numbers ≡ filter other numbers
filtered_alike test other same [] = refl
filtered_alike test other same (number ∷ numbers) =
    ap (λ kept. if kept then number ∷ filter test numbers else filter test numbers) (same number)
    ∙ ap (λ rest. if other number then number ∷ rest else rest) (filtered_alike test other same numbers)

without_current : (current : List (ℕ × ℕ)) (containers : List ℕ) → without_node current containers ≡ filter (λ container. not (has_number (map (λ entry. entry.0) current) container)) containers
without_current current containers =
    filtered_alike (λ container. is_none (current_node current container)) (λ container. not (has_number (map (λ entry. entry.0) current) container)) (λ container. none_found current container None) containers

-- ---- what is drawn of an item

map_joined : (first second : List (ℕ × ℕ)) → map (λ entry. entry.0) (first ++ second) ≡ map (λ entry. entry.0) first ++ map (λ entry. entry.0) second
map_joined [] second = refl
map_joined (entry ∷ first) second = ap (λ rest. entry.0 ∷ rest) (map_joined first second)

accesses_drawn : (scope : Option ℕ) (line : ℕ) (drawing : Drawing) (containers : List ℕ) → length (with_accesses scope line drawing containers).nodes ≡ length drawing.nodes + length containers
accesses_drawn scope line drawing [] = omega arith
accesses_drawn scope line drawing (container ∷ containers) =
    omega (arith, accesses_drawn scope line (with_access scope line drawing container) containers, length-append drawing.nodes (record { scope = scope; kind = Access container; line = line } ∷ []))

accesses_current : (scope : Option ℕ) (line : ℕ) (drawing : Drawing) (containers : List ℕ) → current_of (with_accesses scope line drawing containers) ≡ current_of drawing ++ containers
accesses_current scope line drawing [] = sym (append-nil (current_of drawing))
accesses_current scope line drawing (container ∷ containers) =
    accesses_current scope line (with_access scope line drawing container) containers
    ∙ ap (λ current. current ++ containers) (map_joined drawing.row.current ((container, length drawing.nodes) ∷ []))
    ∙ append_assoc (current_of drawing) (container ∷ []) containers

-- the same nodes, and the same current ones
abbrev IsAs : Drawing → Drawing → Type 0
IsAs drawing other = (drawing.nodes ≡ other.nodes) × (drawing.row.current ≡ other.row.current)

from_as : (from : Option ℕ) (to : ℕ) (passing : Passing) (drawing : Drawing) → IsAs (with_edge_from from to passing drawing) drawing
from_as None to passing drawing = (refl, refl)
from_as (Some from) to passing drawing = (refl, refl)

edges_in_as : (scope : Option ℕ) (own : List ℕ) (to : ℕ) (drawing : Drawing) (passed : List Passing) → IsAs (with_edges_in scope own to drawing passed) drawing
edges_in_as scope own to drawing [] = (refl, refl)
edges_in_as scope own to drawing (passing ∷ others) =
    let one : IsAs (with_edge_in scope own to drawing passing) drawing = from_as (source_of scope own drawing.row passing.container) to passing drawing in
    let rest : IsAs (with_edges_in scope own to (with_edge_in scope own to drawing passing) others) (with_edge_in scope own to drawing passing) = edges_in_as scope own to (with_edge_in scope own to drawing passing) others in
    (rest.0 ∙ one.0, rest.1 ∙ one.1)

to_as : (to : Option ℕ) (from : ℕ) (passing : Passing) (drawing : Drawing) → IsAs (with_edge_to to from passing drawing) drawing
to_as None from passing drawing = (refl, refl)
to_as (Some to) from passing drawing = (refl, refl)

leaving_as : (scope : Option ℕ) (from : ℕ) (passing : Passing) (drawing : Drawing) → IsAs (with_leaving scope from passing drawing) drawing
leaving_as None from passing drawing = (refl, refl)
leaving_as (Some entry) from passing drawing = (refl, refl)

either_as : (is_own : Bool) (one other drawing : Drawing) → IsAs one drawing → IsAs other drawing → IsAs (if is_own then one else other) drawing
either_as true one other drawing is others = is
either_as false one other drawing is others = others

edges_out_as : (scope : Option ℕ) (own : List ℕ) (from : ℕ) (drawing : Drawing) (passed : List Passing) → IsAs (with_edges_out scope own from drawing passed) drawing
edges_out_as scope own from drawing [] = (refl, refl)
edges_out_as scope own from drawing (passing ∷ others) =
    let inside : Drawing = with_edge_to (current_node drawing.row.current passing.container) from passing drawing in
    let one : IsAs (with_edge_out scope own from drawing passing) drawing =
    either_as (has_number own passing.container) inside (with_leaving scope from passing drawing) drawing (to_as (current_node drawing.row.current passing.container) from passing drawing)
    (leaving_as scope from passing drawing) in
    let rest : IsAs (with_edges_out scope own from (with_edge_out scope own from drawing passing) others) (with_edge_out scope own from drawing passing) =
    edges_out_as scope own from (with_edge_out scope own from drawing passing) others in
    (rest.0 ∙ one.0, rest.1 ∙ one.1)

one_node : (scope : Option ℕ) (kind : NodeKind) (line : ℕ) (drawing : Drawing) → length (with_node scope kind line drawing).nodes ≡ length drawing.nodes + 1
one_node scope kind line drawing = length-append drawing.nodes (record { scope = scope; kind = kind; line = line } ∷ [])

module _ (containers : Containers) where
  reads_drawn : (kind : KindTree) (scope : Option ℕ) (own : List ℕ) (line : ℕ) (drawing : Drawing) →
      (length (with_reads kind containers scope own line drawing).nodes ≡ length drawing.nodes + length (read_anew kind containers own (current_of drawing)))
      × (current_of (with_reads kind containers scope own line drawing) ≡ current_of drawing ++ read_anew kind containers own (current_of drawing))
  reads_drawn kind scope own line drawing =
      let wanted : List ℕ = own_among own (containers_by Reads (kind_uses kind containers)) in
      let new : List ℕ = without_node drawing.row.current wanted in
      let read : Drawing = with_accesses scope line drawing new in
      let is : IsAs (with_reads kind containers scope own line drawing) read = edges_in_as scope own (length read.nodes) read (passing Reads kind containers) in
      let same : new ≡ read_anew kind containers own (current_of drawing) = without_current drawing.row.current wanted in (
        ap length is.0 ∙ accesses_drawn scope line drawing new ∙ ap (λ (numbers : List ℕ). length drawing.nodes + length numbers) same,
        ap (λ current. map (λ (entry : ℕ × ℕ). entry.0) current) is.1 ∙ accesses_current scope line drawing new ∙ ap (λ numbers. current_of drawing ++ numbers) same,
      )

  rest_drawn : (kind : KindTree) (scope : Option ℕ) (own : List ℕ) (line first : ℕ) (drawing : Drawing) →
      (length (with_rest kind containers scope own line first drawing).nodes ≡ length drawing.nodes + length (written kind containers own))
      × (current_of (with_rest kind containers scope own line first drawing) ≡ current_of drawing ++ written kind containers own)
  rest_drawn kind scope own line first drawing =
      let drawn : Drawing = with_accesses scope line drawing (written kind containers own) in
      let is : IsAs (with_writes kind containers scope own line (length drawing.nodes - 1) drawing) drawn = edges_out_as scope own (length drawing.nodes - 1) drawn (passing Writes kind containers) in (
        ap length is.0 ∙ accesses_drawn scope line drawing (written kind containers own),
        ap (λ current. map (λ (entry : ℕ × ℕ). entry.0) current) is.1 ∙ accesses_current scope line drawing (written kind containers own),
      )

  scope_drawn : (kind : NodeKind) (body : ItemTrees) (private : List ℕ) (scope : Option ℕ) (line : ℕ) (drawing : Drawing) →
      length (with_items body containers (Some (length drawing.nodes)) private (entered scope kind line drawing)).nodes ≡ length (entered scope kind line drawing).nodes + list_nodes body containers private [] →
      length (left scope (length drawing.nodes) line drawing.row (with_items body containers (Some (length drawing.nodes)) private (entered scope kind line drawing))).nodes
      ≡ length drawing.nodes + (2 + list_nodes body containers private [])
  scope_drawn kind body private scope line drawing inside =
      omega (
        arith,
        length-append (with_items body containers (Some (length drawing.nodes)) private (entered scope kind line drawing)).nodes (record { scope = scope; kind = Exit (length drawing.nodes); line = line } ∷ []),
        inside,
        one_node scope kind line drawing,
      )

  mutual
    item_drawn : (kind : KindTree) (scope : Option ℕ) (line : ℕ) (drawing : Drawing) →
        (length (with_nodes_of kind containers scope line drawing).nodes ≡ length drawing.nodes + item_nodes kind containers) × (current_of (with_nodes_of kind containers scope line drawing) ≡ current_of drawing)
    item_drawn (task code ins outs) scope line drawing = (one_node scope Tasklet line drawing, refl)
    item_drawn (map_scope sequential params private body) scope line drawing = (scope_drawn MapEntry body private scope line drawing (list_drawn body (Some (length drawing.nodes)) private (entered scope MapEntry line drawing)), refl)
    item_drawn (consume_scope stream element private body) scope line drawing = (scope_drawn ConsumeEntry body private scope line drawing (list_drawn body (Some (length drawing.nodes)) private (entered scope ConsumeEntry line drawing)), refl)
    item_drawn (nested_graph inner links) scope line drawing = (one_node scope Nested line drawing, refl)
    item_drawn (reduction resolution axis identity from to) scope line drawing = (one_node scope Reduce line drawing, refl)
    item_drawn (copy from to) scope line drawing = (one_node scope Copy line drawing, refl)

    list_drawn : (items : ItemTrees) (scope : Option ℕ) (own : List ℕ) (drawing : Drawing) → length (with_items items containers scope own drawing).nodes ≡ length drawing.nodes + list_nodes items containers own (current_of drawing)
    list_drawn no_item scope own drawing = omega arith
    list_drawn (and_item line kind items) scope own drawing =
        let read : Drawing = with_reads kind containers scope own line drawing in
        let inner : Drawing = with_nodes_of kind containers scope line read in
        let behind : Drawing = with_rest kind containers scope own line (length read.nodes) inner in
        let reads = reads_drawn kind scope own line drawing in
        let itself = item_drawn kind scope line read in
        let rest = rest_drawn kind scope own line (length read.nodes) inner in
        let current : current_of behind ≡ current_behind kind containers own (current_of drawing) =
        rest.1 ∙ ap (λ current. current ++ written kind containers own) (itself.1 ∙ reads.1) in
        omega (arith, list_drawn items scope own behind, ap (λ current. list_nodes items containers own current) current, rest.0, itself.0, reads.0)

pub items_drawn : (items : ItemTrees) (containers : Containers) (scope : Option ℕ) (own : List ℕ) (drawing : Drawing) →
    length (with_items items containers scope own drawing).nodes ≡ length drawing.nodes + list_nodes items containers own (current_of drawing)
items_drawn items containers scope own drawing = list_drawn containers items scope own drawing
