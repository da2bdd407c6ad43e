use Rattle.std.proofs.Common.{◌≡◌, take}
use Rattle.sd_range.specs.Points.{ranges_of}
use Rattle.sd_range.proofs.range.ranges_copied.Given as goal

-- the ranges so far
abbrev pub invariant-loop-range : goal.invariant-loop-range
invariant-loop-range l = l.copy.items ≡ ranges_of (take l.range-index l.parameters)
