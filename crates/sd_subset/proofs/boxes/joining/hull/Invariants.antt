use Rattle.std.proofs.Common.{◌≡◌, ◌++◌, drop, map}
use Rattle.sd_subset.specs.boxes.Hull as definition
use Rattle.sd_subset.proofs.boxes.joining.hull.Given as goal

-- the dimensions so far stand before the hull of those that are left
abbrev pub invariant-loop-dimension : goal.invariant-loop-dimension
invariant-loop-dimension l = l.all.items ++ definition.hull (drop l.dimension l.extents) (map (drop l.dimension) l.boxes) ≡ definition.hull l.extents l.boxes
