use Rattle.std.proofs.Common.{◌≡◌, take}
use Rattle.sd_valid.specs.BoundExpression.{terms_left}
use Rattle.sd_valid.proofs.expression.other_terms.Given as goal

-- the terms of other variables so far
abbrev pub invariant-loop-term : goal.invariant-loop-term
invariant-loop-term l = l.terms ≡ terms_left l.symbols (take l.term-index l.a.terms)
