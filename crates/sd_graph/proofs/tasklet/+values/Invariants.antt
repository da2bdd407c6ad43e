use Rattle.std.proofs.Common.{◌≡◌, take, map}
use Rattle.sd_graph.specs.TreeFold.{value_tree}
use Rattle.sd_graph.proofs.tasklet.+values.Given as goal

-- the expressions so far
abbrev pub invariant-copied_values-loop-value : goal.invariant-copied_values-loop-value
invariant-copied_values-loop-value l = map value_tree l.copy.items ≡ map value_tree (take l.value-index l.values)
