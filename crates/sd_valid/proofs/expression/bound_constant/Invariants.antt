use Rattle.std.proofs.Common.{◌≡◌, ◌+ℤ◌, drop}
use Rattle.sd_range.specs.Affine.{affine_value, terms_value}
use Rattle.sd_valid.proofs.expression.bound_constant.Given as goal

-- the constant so far and the terms that are left make the value
abbrev pub invariant-loop-term : goal.invariant-loop-term
invariant-loop-term l = l.constant +ℤ terms_value l.sizes (drop l.term-index l.a.terms) ≡ affine_value l.sizes l.a
