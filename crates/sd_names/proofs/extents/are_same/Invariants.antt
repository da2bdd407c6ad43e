use Rattle.std.proofs.Common.{◌≡◌, drop}
use Rattle.sd_names.specs.Extents as shape
use Rattle.sd_names.proofs.extents.are_same.Given as goal

-- what is left decides
abbrev pub invariant-loop-extent : goal.invariant-loop-extent
invariant-loop-extent l = shape.are_same (drop l.extent-index l.a) l.left ≡ shape.are_same l.a l.b
