use Rattle.std.proofs.Common.{◌≡◌, map, take}
use Rattle.sd_range.specs.Axis.{axis_of, first_of}
use Rattle.sd_range.proofs.axis.renew.Given as goal

-- the axes and their first numbers so far
abbrev pub invariant-loop-i : goal.invariant-loop-i
invariant-loop-i l = record {
  axes : take l.i l.axes ≡ map (axis_of l.env.values) (take l.i l.ranges);
  firsts : take l.i l.at ≡ map first_of (map (axis_of l.env.values) (take l.i l.ranges));
}
