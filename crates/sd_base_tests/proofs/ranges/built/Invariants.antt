use Rattle.std.proofs.Common.{◌≡◌, take}
use Rattle.sd_base_tests.proofs.ranges.built.Given as goal

-- the terms so far
abbrev pub invariant-loop-variable : goal.invariant-loop-variable
invariant-loop-variable l = l.all ≡ take l.variable-index l.terms
