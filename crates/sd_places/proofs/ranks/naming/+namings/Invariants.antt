use Rattle.std.proofs.Common.{◌≡◌, ◌++◌, drop}
use Rattle.sd_graph.specs.TreeFold.{item_trees}
use Rattle.sd_validity.specs.rules.Ranks.{item_namings}
use Rattle.sd_places.proofs.ranks.naming.+namings.Given as goal

-- those so far, with those of the items that are left, are all
abbrev pub invariant-push_items-loop-item : goal.invariant-push_items-loop-item
invariant-push_items-loop-item l =
    l.all.items ++ item_namings (item_trees (drop l.item-index l.items)) ≡ l.initial.all.items ++ item_namings (item_trees l.items)
