use Rattle.std.proofs.Common.{◌≡◌, ◌+ℤ◌, drop}
use Rattle.sd_range.specs.Affine.{affine_value, terms_value}
use Rattle.sd_scope.proofs.scope.evaluation.value_of.Given as goal

-- the sum so far and the terms that are left make the value
abbrev pub invariant-loop-variable : goal.invariant-loop-variable
invariant-loop-variable l = l.sum +ℤ terms_value l.values (drop l.variable-index l.affine.terms) ≡ affine_value l.values l.affine
