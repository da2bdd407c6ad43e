use Rattle.std.proofs.Common.{◌≡◌, take, map}
use Rattle.sd_validity.specs.rules.Shapes as shapes
use Rattle.sd_links.specs.ExtentOf.{extent_of}
use Rattle.sd_links.proofs.extents.range_extents.Given as goal

-- those so far
abbrev pub invariant-loop-range : goal.invariant-loop-range
invariant-loop-range l = map extent_of l.extents.items ≡ map shapes.range_extent (map (λ range. range.now) (take l.range-index l.ranges))
