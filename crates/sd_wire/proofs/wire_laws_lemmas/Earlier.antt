-- What is kept of the items of a list while others are drawn.
use Rattle.std.proofs.Common.{◌≡◌, ℕ, ◌-◌, List, [], ◌∷◌, ◌++◌, map, length, Option, Some, None, Bool, true, false, refl, ap, sym, ◌∙◌, append_assoc}
use Rattle.std.proofs.lemmas.List.{append-nil}
use Rattle.sd_graph.specs.PlainTree.{KindTree, task, map_scope, consume_scope, nested_graph, reduction, copy, ItemTrees, no_item, and_item}
use Rattle.sd_graph.specs.ContainerParts.{Containers}
use Rattle.sd_graph.specs.Wiring.{Use, has_number, kind_uses, uses_of_each}
use Rattle.sd_wire.specs.declared.wiring.passing.Passing.{Passing}
use Rattle.sd_wire.specs.declared.wiring.drawing.Drawing.{Drawing}
use Rattle.sd_wire.specs.declared.wiring.drawing.Earlier.{Earlier}
use Rattle.sd_wire.specs.declared.wiring.access.Access.TheVariants.{Reads, Writes}
use Rattle.sd_wire.specs.wiring.Mentioned.{containers_by, passing}
use Rattle.sd_wire.specs.wiring.Drawing.{with_access, with_accesses, with_edge_in, with_edge_out, with_edges_in, with_edges_out, with_edge_from, with_edge_to, with_leaving, source_of, current_node, own_among, without_node, with_reads, with_writes, with_nodes_of, with_item, with_items, order_edges}
use Rattle.sd_wire.specs.wire_laws.Order.{first_node, without_order}

accesses_keep : (scope : Option ℕ) (line : ℕ) (drawing : Drawing) (containers : List ℕ) → (with_accesses scope line drawing containers).row.earlier ≡ drawing.row.earlier
accesses_keep scope line drawing [] = refl
accesses_keep scope line drawing (container ∷ containers) = accesses_keep scope line (with_access scope line drawing container) containers

edge_from_keeps : (source : Option ℕ) (to : ℕ) (passing : Passing) (drawing : Drawing) → (with_edge_from source to passing drawing).row.earlier ≡ drawing.row.earlier
edge_from_keeps None to passing drawing = refl
edge_from_keeps (Some from) to passing drawing = refl

edges_in_keep : (scope : Option ℕ) (own : List ℕ) (to : ℕ) (drawing : Drawing) (all : List Passing) → (with_edges_in scope own to drawing all).row.earlier ≡ drawing.row.earlier
edges_in_keep scope own to drawing [] = refl
edges_in_keep scope own to drawing (first ∷ others) =
    edges_in_keep scope own to (with_edge_in scope own to drawing first) others
    ∙ edge_from_keeps (source_of scope own drawing.row first.container) to first drawing

edge_to_keeps : (target : Option ℕ) (from : ℕ) (passing : Passing) (drawing : Drawing) → (with_edge_to target from passing drawing).row.earlier ≡ drawing.row.earlier
edge_to_keeps None from passing drawing = refl
edge_to_keeps (Some to) from passing drawing = refl

leaving_keeps : (scope : Option ℕ) (from : ℕ) (passing : Passing) (drawing : Drawing) → (with_leaving scope from passing drawing).row.earlier ≡ drawing.row.earlier
leaving_keeps None from passing drawing = refl
leaving_keeps (Some entry) from passing drawing = refl

edge_out_keeps : (scope : Option ℕ) (own : List ℕ) (from : ℕ) (drawing : Drawing) (passing : Passing) → (with_edge_out scope own from drawing passing).row.earlier ≡ drawing.row.earlier
edge_out_keeps scope own from drawing passing = go (has_number own passing.container) refl where
  go : (is_own : Bool) → has_number own passing.container ≡ is_own → (with_edge_out scope own from drawing passing).row.earlier ≡ drawing.row.earlier
  go true is = rw is (edge_to_keeps (current_node drawing.row.current passing.container) from passing drawing)
  go false is = rw is (leaving_keeps scope from passing drawing)

edges_out_keep : (scope : Option ℕ) (own : List ℕ) (from : ℕ) (drawing : Drawing) (all : List Passing) → (with_edges_out scope own from drawing all).row.earlier ≡ drawing.row.earlier
edges_out_keep scope own from drawing [] = refl
edges_out_keep scope own from drawing (first ∷ others) =
    edges_out_keep scope own from (with_edge_out scope own from drawing first) others ∙ edge_out_keeps scope own from drawing first

module _ (containers : Containers) (scope : Option ℕ) where
  reads_keep : (kind : KindTree) (own : List ℕ) (line : ℕ) (drawing : Drawing) → (with_reads kind containers scope own line drawing).row.earlier ≡ drawing.row.earlier
  reads_keep kind own line drawing =
      let found = without_node drawing.row.current (own_among own (containers_by Reads (kind_uses kind containers))) in
      let read = with_accesses scope line drawing found in
      edges_in_keep scope own (length read.nodes) read (passing Reads kind containers) ∙ accesses_keep scope line drawing found

  nodes_keep : (kind : KindTree) (line : ℕ) (drawing : Drawing) → (with_nodes_of kind containers scope line drawing).row.earlier ≡ drawing.row.earlier
  nodes_keep (task code ins outs) line drawing = refl
  nodes_keep (map_scope sequential params private body) line drawing = refl
  nodes_keep (consume_scope stream element private body) line drawing = refl
  nodes_keep (nested_graph inner links) line drawing = refl
  nodes_keep (reduction resolution axis identity from to) line drawing = refl
  nodes_keep (copy from to) line drawing = refl

  writes_keep : (kind : KindTree) (own : List ℕ) (line last : ℕ) (drawing : Drawing) → (with_writes kind containers scope own line last drawing).row.earlier ≡ drawing.row.earlier
  writes_keep kind own line last drawing =
      let found = own_among own (containers_by Writes (kind_uses kind containers)) in
      edges_out_keep scope own last (with_accesses scope line drawing found) (passing Writes kind containers) ∙ accesses_keep scope line drawing found

  -- all that is drawn of an item before its order edges
  pub without_order_keeps : (kind : KindTree) (own : List ℕ) (line : ℕ) (drawing : Drawing) → (without_order kind containers scope own line drawing).row.earlier ≡ drawing.row.earlier
  without_order_keeps kind own line drawing =
      let read = with_reads kind containers scope own line drawing in
      let inside = with_nodes_of kind containers scope line read in
      writes_keep kind own line (length inside.nodes - 1) inside ∙ nodes_keep kind line read ∙ reads_keep kind own line drawing

  pub edges_of_item : (kind : KindTree) (own : List ℕ) (line : ℕ) (drawing : Drawing) → (with_item kind containers scope own line drawing).edges
      ≡ (without_order kind containers scope own line drawing).edges ++ order_edges drawing.row.earlier (first_node kind containers scope own line drawing) (kind_uses kind containers)
  edges_of_item kind own line drawing =
      ap (λ earlier. (without_order kind containers scope own line drawing).edges ++ order_edges earlier (first_node kind containers scope own line drawing) (kind_uses kind containers))
      (without_order_keeps kind own line drawing)

  map_joined : (xs ys : List Earlier) → map (λ item. item.uses) (xs ++ ys) ≡ map (λ item. item.uses) xs ++ map (λ item. item.uses) ys
  map_joined [] ys = refl
  map_joined (x ∷ xs) ys = ap (λ rest. x.uses ∷ rest) (map_joined xs ys)

  -- what is kept of an item
  item_kept : (kind : KindTree) (own : List ℕ) (line : ℕ) (drawing : Drawing) →
      map (λ item. item.uses) (with_item kind containers scope own line drawing).row.earlier ≡ map (λ item. item.uses) drawing.row.earlier ++ kind_uses kind containers ∷ []
  item_kept kind own line drawing =
      let before = without_order kind containers scope own line drawing in
      map_joined before.row.earlier _ ∙ ap (λ (earlier : List Earlier). map (λ item. item.uses) earlier ++ kind_uses kind containers ∷ []) (without_order_keeps kind own line drawing)

  pub items_kept : (items : ItemTrees) (own : List ℕ) (drawing : Drawing) →
      map (λ item. item.uses) (with_items items containers scope own drawing).row.earlier ≡ map (λ item. item.uses) drawing.row.earlier ++ uses_of_each items containers
  items_kept no_item own drawing = sym (append-nil (map (λ item. item.uses) drawing.row.earlier))
  items_kept (and_item line kind items) own drawing =
      items_kept items own (with_item kind containers scope own line drawing)
      ∙ ap (λ kept. kept ++ uses_of_each items containers) (item_kept kind own line drawing)
      ∙ append_assoc (map (λ item. item.uses) drawing.row.earlier) (kind_uses kind containers ∷ []) (uses_of_each items containers)
