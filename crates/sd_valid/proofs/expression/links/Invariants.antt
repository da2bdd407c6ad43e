use Rattle.std.proofs.Common.{◌≡◌, take, map}
use Rattle.sd_valid.specs.BoundExpression.{bound_link}
use Rattle.sd_valid.proofs.expression.links.Given as goal

-- those so far with the sizes
abbrev pub invariant-loop-one : goal.invariant-loop-one
invariant-loop-one l = l.bound.items ≡ map (bound_link l.sizes) (take l.one-index l.all)
