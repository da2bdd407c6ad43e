use Rattle.std.proofs.Common.{◌≡◌, take}
use Rattle.sd_range.proofs.subset.Subset.copy_of.Given as goal

-- the dimensions so far
abbrev pub invariant-loop-dim : goal.invariant-loop-dim
invariant-loop-dim l = l.dims.items ≡ take l.dim-index l.self.dims
