use Rattle.std.proofs.Common.{◌≡◌, drop}
use Rattle.sd_range.specs.Terms.{coefficient_of}
use Rattle.sd_range.proofs.terms.Terms.coefficient.Given as goal

-- the terms that are left have the coefficient
abbrev pub invariant-loop-other : goal.invariant-loop-other
invariant-loop-other l = coefficient_of (drop l.other-index l.other-items) l.variable ≡ coefficient_of l.self l.variable
