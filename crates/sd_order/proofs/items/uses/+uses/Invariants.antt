use Rattle.std.proofs.Common.{◌≡◌, ◌++◌, drop, map}
use Rattle.sd_graph.specs.TreeFold.{item_trees, named_container}
use Rattle.sd_graph.specs.Wiring.{item_uses}
use Rattle.sd_order.proofs.items.uses.+uses.Given as goal

-- what the items do so far, with what is left
abbrev pub invariant-push_body-loop-item : goal.invariant-push_body-loop-item
invariant-push_body-loop-item l = l.inner.items ++ item_uses (item_trees (drop l.item-index l.body)) (map named_container l.containers.entries)
    ≡ item_uses (item_trees l.body) (map named_container l.containers.entries)
