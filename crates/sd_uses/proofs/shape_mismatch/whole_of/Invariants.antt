use Rattle.std.proofs.Common.{◌≡◌, ◌++◌, drop, map}
use Rattle.sd_uses.specs.ShapeMismatch as shape
use Rattle.sd_uses.proofs.shape_mismatch.whole_of.Given as goal

-- what is left decides
abbrev pub invariant-loop-extent : goal.invariant-loop-extent
invariant-loop-extent l = l.all.items ++ map shape.whole_stretch (drop l.extent-index l.extents) ≡ map shape.whole_stretch l.extents
