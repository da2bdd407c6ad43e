use Rattle.std.proofs.Common.{◌≡◌, drop}
use Rattle.sd_task.specs.in_force.Subsets.{are_units}
use Rattle.sd_task.proofs.in_force.subset.are_units.Given as goal

abbrev pub invariant-loop-extent : goal.invariant-loop-extent
invariant-loop-extent l = are_units (drop l.extent-index l.extents) ≡ are_units l.extents
