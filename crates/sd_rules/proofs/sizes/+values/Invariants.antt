use Rattle.std.proofs.Common.{◌≡◌, drop}
use Rattle.sd_graph.specs.TreeFold.{value_trees}
use Rattle.sd_validity.specs.rules.SizesGone as sizes
use Rattle.sd_rules.proofs.sizes.+values.Given as goal

-- those left have no size symbol where all have none
abbrev pub invariant-are_values_free-loop-value : goal.invariant-are_values_free-loop-value
invariant-are_values_free-loop-value l = sizes.are_values_free l.symbols l.variables (value_trees (drop l.value-index l.all)) ≡ sizes.are_values_free l.symbols l.variables (value_trees l.all)
