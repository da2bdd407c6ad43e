use Rattle.std.proofs.Common.{◌≡◌, map, take}
use Rattle.sd_range.specs.Axis.{axis_of}
use Rattle.sd_range.proofs.axis.axes_of_ranges.Given as goal

-- the axes of the ranges so far
abbrev pub invariant-loop-range : goal.invariant-loop-range
invariant-loop-range l = l.axes.items ≡ map (axis_of l.env.values) (take l.range-index l.ranges)
