use Rattle.std.proofs.Common.{◌≡◌, ◌++◌, drop, map, string_bytes}
use Rattle.sd_graph.specs.TreeFold.{item_trees, named_container}
use Rattle.sd_print.specs.graphs.NodeText.{labels}
use Rattle.sd_print.proofs.graphs.node.+labels.Given as goal

-- those so far, with those that are left
abbrev pub invariant-push_labels-loop-item : goal.invariant-push_labels-loop-item
invariant-push_labels-loop-item l = l.labels.items ++ labels (map string_bytes l.names) (map named_container l.containers.entries) l.order (item_trees (drop l.item-index l.items))
    ≡ l.initial.labels.items ++ labels (map string_bytes l.names) (map named_container l.containers.entries) l.order (item_trees l.items)
