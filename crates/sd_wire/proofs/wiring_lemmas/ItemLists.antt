-- The items of a list from one on.
use Rattle.std.proofs.Common.{◌≡◌, ℕ, suc, ◌+◌, ◌<◌, List, ◌∷◌, Option, map, length, drop, slice_index_or, ap, sym, ◌∙◌, add-one, drop-cons}
use Rattle.sd_graph.specs.ContainerParts.{Containers}
use Rattle.sd_graph.specs.PlainTree.{KindTree, GraphTree, and_item}
use Rattle.sd_graph.specs.TreeFold.{item_tree, item_trees, items_listed, kind_tree, PlainItem, PlainState, kind_step, item_step, graph_step, state_step}
use Rattle.sd_graph.specs.declared.graph.ItemKind.TheFolds.{fold_out-Item}
use Rattle.sd_graph.specs.declared.graph.Item.{Item}
use Rattle.sd_wire.specs.declared.wiring.drawing.Drawing.{Drawing}
use Rattle.sd_wire.specs.wiring.Drawing.{with_item, with_items}

-- an item: its line and what it does
pub item_opened : (item : Item) → item_tree item ≡ (item.line, kind_tree item.kind)
item_opened = fold_out-Item KindTree PlainItem GraphTree PlainState kind_step item_step graph_step state_step

-- what is drawn of the items from one on
pub items_more : (items : List Item) (i : ℕ) (item : Item) → i < length items → item ≡ slice_index_or items i item →
    (containers : Containers) (scope : Option ℕ) (own : List ℕ) (drawing : Drawing) →
    with_items (item_trees (drop i items)) containers scope own drawing
    ≡ with_items (item_trees (drop (i + 1) items)) containers scope own (with_item (kind_tree item.kind) containers scope own item.line drawing)
items_more items i item below is containers scope own drawing =
    rw (add-one, drop-cons items i item below)
    (ap (λ (first : Item). with_items (and_item (item_tree first).0 (item_tree first).1 (item_trees (drop (suc i) items))) containers scope own drawing) (sym is)
    ∙ ap (λ (first : PlainItem). with_items (and_item first.0 first.1 (item_trees (drop (suc i) items))) containers scope own drawing) (item_opened item))
