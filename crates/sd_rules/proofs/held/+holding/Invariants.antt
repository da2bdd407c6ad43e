use Rattle.std.proofs.Common.{◌≡◌, ◌++◌, drop}
use Rattle.sd_graph.specs.TreeFold.{item_trees}
use Rattle.sd_validity.specs.rules.NamesInForce as names
use Rattle.sd_rules.proofs.held.+holding.Given as goal

-- those so far, with those of the items that are left, are all
abbrev pub invariant-push_items-loop-item : goal.invariant-push_items-loop-item
invariant-push_items-loop-item l =
    l.held.items ++ names.held_in (item_trees (drop l.item-index l.items)) ≡ l.initial.held.items ++ names.held_in (item_trees l.items)
