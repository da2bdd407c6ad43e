use Rattle.std.proofs.Common.{◌≡◌, ◌++◌, drop, map}
use Rattle.sd_graph.specs.TreeFold.{item_trees, named_container}
use Rattle.sd_lower.specs.Hulls.{hulls_of_each}
use Rattle.sd_lower.proofs.hulls.hulls_of_each.Given as goal

-- those so far, with those of the items that are left
abbrev pub invariant-loop-item : goal.invariant-loop-item
invariant-loop-item l = l.each.items ++ hulls_of_each (map named_container l.containers.entries) (item_trees (drop l.item-index l.items)) ≡ hulls_of_each (map named_container l.containers.entries) (item_trees l.items)
