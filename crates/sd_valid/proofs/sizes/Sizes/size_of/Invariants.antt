use Rattle.std.proofs.Common.{◌≡◌, drop}
use Rattle.sd_valid.specs.SizeValues.{size_of}
use Rattle.sd_valid.proofs.sizes.Sizes.size_of.Given as goal

-- the value among all is that among those that are left
abbrev pub invariant-loop-other : goal.invariant-loop-other
invariant-loop-other l = size_of (drop l.other-index l.other-items) l.name ≡ size_of l.other-items l.name
