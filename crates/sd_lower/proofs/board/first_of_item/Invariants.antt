use Rattle.std.proofs.Common.{◌≡◌, drop}
use Rattle.sd_prop.specs.propagation.ItemNodes.{own_node, of_items}
use Rattle.sd_lower.proofs.board.first_of_item.Given as goal

-- it is that of those that are left
abbrev pub invariant-loop-node : goal.invariant-loop-node
invariant-loop-node l = own_node (of_items l.number (drop l.node-index l.nodes)) ≡ own_node (of_items 0 l.nodes)
