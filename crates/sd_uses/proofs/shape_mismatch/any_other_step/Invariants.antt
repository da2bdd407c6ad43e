use Rattle.std.proofs.Common.{◌≡◌, drop}
use Rattle.sd_uses.specs.ShapeMismatch as shape
use Rattle.sd_uses.proofs.shape_mismatch.any_other_step.Given as goal

-- what is left decides
abbrev pub invariant-loop-stretch : goal.invariant-loop-stretch
invariant-loop-stretch l = shape.any_other_step (drop l.stretch-index l.subset) ≡ shape.any_other_step l.subset
