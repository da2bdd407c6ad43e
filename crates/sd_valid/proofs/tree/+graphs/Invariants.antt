use Rattle.std.proofs.Common.{◌≡◌, take, map}
use Rattle.sd_graph.specs.TreeFold.{item_tree, state_tree}
use Rattle.sd_valid.proofs.BoundLists.{bound_item, bound_state}
use Rattle.sd_valid.proofs.tree.+graphs.Given as goal

-- the items so far with the sizes
abbrev pub invariant-items-loop-one : goal.invariant-items-loop-one
invariant-items-loop-one l = map item_tree l.bound.items ≡ map (bound_item l.sizes) (map item_tree (take l.one-index l.all))

-- the states so far with the sizes
abbrev pub invariant-states-loop-one : goal.invariant-states-loop-one
invariant-states-loop-one l = map state_tree l.bound.items ≡ map (bound_state l.sizes) (map state_tree (take l.one-index l.all))
