use Rattle.std.proofs.Common.{◌≡◌, map, take}
use Rattle.sd_tasklet.specs.tasklet.Given.{told_extent}
use Rattle.sd_leaves.proofs.leaves.evaluation.told_extents.Given as goal

-- the extents so far
abbrev pub invariant-loop-extent : goal.invariant-loop-extent
invariant-loop-extent l = l.told.items ≡ map told_extent (take l.extent-index l.extents)
