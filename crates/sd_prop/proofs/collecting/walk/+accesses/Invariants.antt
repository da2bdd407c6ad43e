use Rattle.std.proofs.Common.{◌≡◌, ◌++◌, drop, map}
use Rattle.sd_graph.specs.TreeFold.{item_trees, named_container}
use Rattle.sd_prop.specs.propagation.Accesses.{item_accesses}
use Rattle.sd_prop.specs.propagation.ItemNodes.{node_counts}
use Rattle.sd_prop.proofs.collecting.walk.+accesses.Given as goal

-- the accesses so far, with those of the items that are left, and the nodes behind all of them
abbrev pub invariant-push_items-loop-item : goal.invariant-push_items-loop-item
invariant-push_items-loop-item l = record {
  accesses : l.found.items ++ item_accesses (item_trees (drop l.item-index l.items)) (map named_container l.containers.entries) l.left
      ≡ l.initial.found.items ++ item_accesses (item_trees l.items) (map named_container l.containers.entries) l.nodes;
  rest : drop (node_counts (item_trees (drop l.item-index l.items))) l.left ≡ drop (node_counts (item_trees l.items)) l.nodes;
}
