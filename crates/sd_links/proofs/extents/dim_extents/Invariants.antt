use Rattle.std.proofs.Common.{◌≡◌, take, map}
use Rattle.sd_validity.specs.rules.Shapes as shapes
use Rattle.sd_links.specs.ExtentOf.{extent_of}
use Rattle.sd_links.proofs.extents.dim_extents.Given as goal

-- those so far
abbrev pub invariant-loop-last : goal.invariant-loop-last
invariant-loop-last l = map extent_of l.extents.items ≡ map shapes.dim_extent (take l.last-index l.dims)
