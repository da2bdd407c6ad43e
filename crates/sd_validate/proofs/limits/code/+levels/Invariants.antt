use Rattle.std.proofs.Common.{◌≡◌, nat_le, drop}
use Rattle.sd_graph.specs.TreeFold.{value_trees}
use Rattle.sd_validity.specs.rules.CodeSize as size
use Rattle.sd_validate.proofs.limits.code.+levels.Given as goal

-- those left have no more levels where all have no more
abbrev pub invariant-have_levels-loop-value : goal.invariant-have_levels-loop-value
invariant-have_levels-loop-value l = nat_le (size.greatest_levels (value_trees (drop l.value-index l.all))) l.most ≡ nat_le (size.greatest_levels (value_trees l.all)) l.most
