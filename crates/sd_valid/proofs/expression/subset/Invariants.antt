use Rattle.std.proofs.Common.{◌≡◌, take, map}
use Rattle.sd_valid.specs.BoundExpression.{bound_dim}
use Rattle.sd_valid.proofs.expression.subset.Given as goal

-- those so far with the sizes
abbrev pub invariant-loop-one : goal.invariant-loop-one
invariant-loop-one l = l.dims.items ≡ map (bound_dim l.sizes) (take l.one-index l.one-items)
