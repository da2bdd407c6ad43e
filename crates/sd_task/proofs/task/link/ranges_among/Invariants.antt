use Rattle.std.proofs.Common.{◌≡◌, ◌+◌, drop}
use Rattle.sd_task.specs.in_force.Subsets.{ranges_among}
use Rattle.sd_task.proofs.task.link.ranges_among.Given as goal

abbrev pub invariant-loop-dim : goal.invariant-loop-dim
invariant-loop-dim l = l.ranges + ranges_among (drop l.dim-index l.dims) ≡ ranges_among l.dims
