use Rattle.std.proofs.Common.{◌≡◌, ◌++◌, drop}
use Rattle.sd_task.specs.in_force.Subsets.{first_element}
use Rattle.sd_task.proofs.in_force.subset.first_element.Given as goal

abbrev pub invariant-loop-extent : goal.invariant-loop-extent
invariant-loop-extent l = l.dims.items ++ first_element (drop l._extent-index l.extents) ≡ first_element l.extents
