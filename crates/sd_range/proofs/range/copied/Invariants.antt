use Rattle.std.proofs.Common.{◌≡◌, take}
use Rattle.sd_range.proofs.range.copied.Given as goal

-- the ranges so far
abbrev pub invariant-loop-range : goal.invariant-loop-range
invariant-loop-range l = l.copy.items ≡ take l.range-index l.ranges
