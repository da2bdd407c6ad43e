use Rattle.std.proofs.Common.{◌≡◌, take, map}
use Rattle.sd_graph.specs.TreeFold.{exit_tree}
use Rattle.sd_valid.specs.BoundTree.{bound_exit}
use Rattle.sd_valid.proofs.tree.exits.Given as goal

-- the transitions so far with the sizes
abbrev pub invariant-loop-one : goal.invariant-loop-one
invariant-loop-one l = map exit_tree l.bound.items ≡ map (bound_exit l.sizes) (map exit_tree (take l.one-index l.all))
