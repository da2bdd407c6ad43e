use Rattle.std.proofs.Common.{◌≡◌, take, map}
use Rattle.sd_valid.specs.BoundExpression.{bound_param}
use Rattle.sd_valid.proofs.expression.params.Given as goal

-- those so far with the sizes
abbrev pub invariant-loop-variable : goal.invariant-loop-variable
invariant-loop-variable l = l.bound.items ≡ map (bound_param l.sizes) (take l.variable-index l.all)
