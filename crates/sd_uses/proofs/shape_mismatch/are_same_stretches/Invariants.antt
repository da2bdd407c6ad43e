use Rattle.std.proofs.Common.{◌≡◌, drop}
use Rattle.std.specs.Cmp.Lexicographic.{pointwise}
use Rattle.sd_uses.specs.ShapeMismatch as shape
use Rattle.sd_uses.proofs.shape_mismatch.are_same_stretches.Given as goal

-- what is left decides
abbrev pub invariant-loop-stretch : goal.invariant-loop-stretch
invariant-loop-stretch l = pointwise shape.is_same_stretch (drop l.stretch-index l.a) l.left ≡ pointwise shape.is_same_stretch l.a l.b
