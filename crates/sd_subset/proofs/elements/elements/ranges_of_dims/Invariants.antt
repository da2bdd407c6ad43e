use Rattle.std.proofs.Common.{◌≡◌, map, take}
use Rattle.sd_subset.specs.elements.Way.{range_of}
use Rattle.sd_subset.proofs.elements.elements.ranges_of_dims.Given as goal

-- the ranges so far
abbrev pub invariant-loop-dim : goal.invariant-loop-dim
invariant-loop-dim l = l.ranges.items ≡ map range_of (take l.dim-index l.dims)
