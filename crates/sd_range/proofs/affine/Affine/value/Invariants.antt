use Rattle.std.proofs.Common.{◌≡◌, ◌+ℤ◌, drop}
use Rattle.std.specs.Int.{int_wrap, w128}
use Rattle.sd_range.specs.Affine.{affine_value, terms_value}
use Rattle.sd_range.proofs.affine.Affine.value.Given as goal

-- the sum so far and the terms that are left make the value, modulo 2^128
abbrev pub invariant-loop-variable : goal.invariant-loop-variable
invariant-loop-variable l =
    int_wrap w128 (l.sum +ℤ terms_value l.env.values (drop l.variable-index l.self.terms))
    ≡ int_wrap w128 (affine_value l.env.values l.self)
