use Rattle.std.proofs.Common.{◌≡◌, take, map}
use Rattle.sd_graph.specs.TreeFold.{value_tree}
use Rattle.sd_valid.specs.BoundCode.{bound_value}
use Rattle.sd_valid.proofs.code.+values.Given as goal

-- the expressions so far with the sizes
abbrev pub invariant-values-loop-one : goal.invariant-values-loop-one
invariant-values-loop-one l = map value_tree l.bound.items ≡ map (bound_value l.sizes l.variables) (map value_tree (take l.one-index l.all))
