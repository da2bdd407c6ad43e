-- Steps through the items of a list.
use Rattle.std.proofs.Common.{◌≡◌, ℕ, ◌+◌, ◌<◌, List, ◌∷◌, sym, subst, ap, ◌∙◌, length, drop, get_or}
use Rattle.std.proofs.lemmas.List.{drop_more}
use Rattle.sd_work.specs.BigStep.{Reached, Coming}
use Rattle.sd_graph.specs.declared.place.Place.{Place}
use Rattle.sd_graph.specs.PlainTree.{ItemTrees, and_item}
use Rattle.sd_graph.specs.Context.{Context}
use Rattle.sd_graph.specs.Unfold.{unfold_kind, unfold_items}
use Rattle.sd_graph.specs.TreeFold.{item_tree, item_trees}
use Rattle.sd_graph.specs.declared.graph.Item.{Item}
use Rattle.sd_mem.specs.machine.ComesTo.{IsEnd}
use Rattle.sd_mem.specs.machine.Coming.{kind_coming, items_coming}
use Rattle.sd_mem.specs.declared.machine.end.End.{End}
use Rattle.sd_mem.specs.declared.machine.end.End.TheVariants.{Finished}
use Rattle.sd_row.proofs.row_lemmas.Comes.{IsLeft, left_more, left_stop}

-- an item of a list is the first of those from it on
items_from : (items : List Item) (index : ℕ) (item : Item) → index < length items → item ≡ get_or items index item →
    item_trees (drop index items) ≡ and_item (item_tree item).0 (item_tree item).1 (item_trees (drop (index + 1) items))
items_from items index item within is =
    ap item_trees (drop_more items index item within) ∙ ap (λ (i : Item). item_trees (i ∷ drop (index + 1) items)) (sym is)

module _ (whole : ℕ → Coming Place) (context : Context) (before middle now : Reached) (items : List Item) (index : ℕ) (item : Item)
    (within : index < length items) (is : item ≡ get_or items index item)
    (left : IsLeft whole before (λ most beside. items_coming (item_trees (drop index items)) context middle most) middle) where
  opened : IsLeft whole before (λ most beside. items_coming (and_item (item_tree item).0 (item_tree item).1 (item_trees (drop (index + 1) items))) context middle most) middle
  opened = subst (λ (t : ItemTrees). IsLeft whole before (λ most beside. items_coming t context middle most) middle) (items_from items index item within is) left

  -- the item is done
  pub item_more : IsEnd (kind_coming (item_tree item).1 (item_tree item).0 context middle) middle Finished now →
      IsLeft whole before (λ most beside. items_coming (item_trees (drop (index + 1) items)) context now most) now
  item_more ends = left_more whole before middle now (unfold_kind (item_tree item).1 (item_tree item).0 context) (unfold_items (item_trees (drop (index + 1) items)) context) opened ends

  -- the item stops the list
  pub item_stop : (end : End) → IsEnd (kind_coming (item_tree item).1 (item_tree item).0 context middle) middle end now →
      ((end ≡ Finished) → ⊥) → IsEnd whole before end now
  item_stop end ends stop = left_stop whole before middle now (unfold_kind (item_tree item).1 (item_tree item).0 context) (unfold_items (item_trees (drop (index + 1) items)) context) end opened ends stop
