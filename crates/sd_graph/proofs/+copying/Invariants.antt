use Rattle.std.proofs.Common.{◌≡◌, take, map}
use Rattle.sd_graph.specs.TreeFold.{item_tree, state_tree}
use Rattle.sd_graph.proofs.+copying.Given as goal

-- the items so far
abbrev pub invariant-copying::copied_items-loop-item : goal.invariant-copying::copied_items-loop-item
invariant-copying::copied_items-loop-item l = map item_tree l.copy.items ≡ map item_tree (take l.item-index l.items)

-- the states so far
abbrev pub invariant-copying::copied_states-loop-state : goal.invariant-copying::copied_states-loop-state
invariant-copying::copied_states-loop-state l = map state_tree l.copy.items ≡ map state_tree (take l.state-index l.states)
