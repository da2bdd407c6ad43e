use Rattle.std.proofs.Common.{◌≡◌, take}
use Rattle.sd_subset.specs.boxes.Box as definition
use Rattle.sd_subset.proofs.boxes.bounds.box_of.Given as goal

-- the bounds of the dimensions so far
abbrev pub invariant-loop-dim : goal.invariant-loop-dim
invariant-loop-dim l = l.all.items ≡ definition.box_of (take l.dim-index l.dims)
