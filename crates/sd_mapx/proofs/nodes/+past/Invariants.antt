use Rattle.std.proofs.Common.{◌≡◌, drop}
use Rattle.sd_graph.specs.TreeFold.{item_trees}
use Rattle.sd_prop.specs.propagation.ItemNodes.{node_counts}
use Rattle.sd_mapx.proofs.nodes.+past.Given as goal

-- the nodes behind all items
abbrev pub invariant-past_items-loop-item : goal.invariant-past_items-loop-item
invariant-past_items-loop-item l = drop (node_counts (item_trees (drop l.item-index l.items))) l.left ≡ drop (node_counts (item_trees l.items)) l.nodes
