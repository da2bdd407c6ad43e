use Rattle.std.proofs.Common.{◌≡◌, map, take}
use Rattle.sd_num.specs.Wrapped.{wrapped}
use Rattle.sd_range.specs.Affine.{variable_value}
use Rattle.sd_leaves.proofs.leaves.evaluation.values_of_variables.Given as goal

-- the values so far
abbrev pub invariant-loop-variable : goal.invariant-loop-variable
invariant-loop-variable l = l.all.items ≡ map (λ variable. wrapped (variable_value l.values.values variable)) (take l.variable-index l.variables)
