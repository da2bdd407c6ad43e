use Rattle.std.proofs.Common.{◌≡◌, take, map}
use Rattle.sd_graph.specs.TreeFold.{value_tree}
use Rattle.sd_tasklet.specs.literals.Literals.{lifted_value}
use Rattle.sd_tasklet.proofs.literals.lifting.+values.Given as goal

-- the expressions so far
abbrev pub invariant-values-loop-one : goal.invariant-values-loop-one
invariant-values-loop-one l = map value_tree l.lifted.items ≡ map (lifted_value l.numbers l.own) (map value_tree (take l.one-index l.all))
