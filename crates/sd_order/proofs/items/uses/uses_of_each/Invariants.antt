use Rattle.std.proofs.Common.{◌≡◌, ◌++◌, drop, map}
use Rattle.sd_graph.specs.TreeFold.{item_trees, named_container}
use Rattle.sd_graph.specs.Wiring.{uses_of_each}
use Rattle.sd_order.proofs.items.uses.uses_of_each.Given as goal

-- what each item does so far, with what is left
abbrev pub invariant-loop-item : goal.invariant-loop-item
invariant-loop-item l = l.each.items ++ uses_of_each (item_trees (drop l.item-index l.items)) (map named_container l.containers.entries)
    ≡ uses_of_each (item_trees l.items) (map named_container l.containers.entries)
