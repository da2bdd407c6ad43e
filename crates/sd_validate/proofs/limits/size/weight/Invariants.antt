use Rattle.std.proofs.Common.{◌≡◌, ◌+◌, ◌-◌, ◌^◌, ◌≤◌, min, drop}
use Rattle.sd_range.specs.Weight.{weight_of}
use Rattle.sd_validate.proofs.limits.size.weight.Given as goal

-- the sum so far, with the coefficients that are left, is that of all
abbrev pub invariant-loop-term : goal.invariant-loop-term
invariant-loop-term l = record {
  all : min (l.weight + weight_of (drop l.term-index l.terms)) (2 ^ 128 - 1) ≡ min (weight_of l.terms) (2 ^ 128 - 1);
  below : l.weight ≤ 2 ^ 128 - 1;
}
