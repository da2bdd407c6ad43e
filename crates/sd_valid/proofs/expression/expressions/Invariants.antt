use Rattle.std.proofs.Common.{◌≡◌, take, map}
use Rattle.sd_valid.specs.BoundExpression.{bound_affine}
use Rattle.sd_valid.proofs.expression.expressions.Given as goal

-- those so far with the sizes
abbrev pub invariant-loop-a : goal.invariant-loop-a
invariant-loop-a l = l.bound.items ≡ map (bound_affine l.sizes) (take l.a-index l.all)
