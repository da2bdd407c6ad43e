use Rattle.std.proofs.Common.{◌≡◌, ◌++◌, drop}
use Rattle.sd_prop.specs.propagation.ItemNodes.{of_items}
use Rattle.sd_mapx.proofs.nodes.of_items.Given as goal

-- those so far, with those that are left
abbrev pub invariant-loop-node : goal.invariant-loop-node
invariant-loop-node l = l.found.items ++ of_items l.number (drop l.node-index l.nodes) ≡ of_items 0 l.nodes
