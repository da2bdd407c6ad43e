use Rattle.std.proofs.Common.{◌≡◌, nat_lt, drop}
use Rattle.std.specs.List.{sum}
use Rattle.sd_left.specs.sparse.Stretch.{left_each}
use Rattle.sd_left.proofs.sparse.stretch.is_one_left.Given as goal

abbrev pub invariant-loop-point : goal.invariant-loop-point
invariant-loop-point l = nat_lt 0 (sum (left_each l.tasks (drop l.point-index l.points))) ≡ nat_lt 0 (sum (left_each l.tasks l.points))
