use Rattle.std.proofs.Common.{◌≡◌, ◌++◌, drop}
use Rattle.std.specs.List.{AllByRecursion}
use Rattle.sd_program.specs.Small.{IsWithinLimits}
use Rattle.sd_task.specs.in_force.Subsets.{whole}
use Rattle.sd_task.proofs.in_force.subset.whole.Given as goal

abbrev pub invariant-loop-extent : goal.invariant-loop-extent
invariant-loop-extent l = record {
  made : l.dims.items ++ whole (drop l.extent-index l.extents) ≡ whole l.extents;
  within : AllByRecursion IsWithinLimits (drop l.extent-index l.extents);
}
