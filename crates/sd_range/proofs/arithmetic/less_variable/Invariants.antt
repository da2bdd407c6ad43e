use Rattle.std.proofs.Common.{◌≡◌, take}
use Rattle.sd_range.specs.Arithmetic.{others_of}
use Rattle.sd_range.proofs.arithmetic.less_variable.Given as goal

-- the terms of other variables so far
abbrev pub invariant-loop-term : goal.invariant-loop-term
invariant-loop-term l = l.terms ≡ others_of l.variable (take l.term-index l.a.terms)
