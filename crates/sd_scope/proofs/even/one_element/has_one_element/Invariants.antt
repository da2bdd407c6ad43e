use Rattle.std.proofs.Common.{◌≡◌, drop}
use Rattle.sd_scope.specs.even.Even.{is_scalar}
use Rattle.sd_scope.proofs.even.one_element.has_one_element.Given as goal

-- it is what the dimensions that are left say
abbrev pub invariant-loop-dim : goal.invariant-loop-dim
invariant-loop-dim l = is_scalar l.dims ≡ is_scalar (drop l.dim-index l.dims)
