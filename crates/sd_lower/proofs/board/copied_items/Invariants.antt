use Rattle.std.proofs.Common.{◌≡◌, take, map}
use Rattle.sd_graph.specs.TreeFold.{item_tree}
use Rattle.sd_lower.proofs.board.copied_items.Given as goal

-- those so far
abbrev pub invariant-loop-item : goal.invariant-loop-item
invariant-loop-item l = map item_tree l.copy.items ≡ map item_tree (take l.item-index l.items)
