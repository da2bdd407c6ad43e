use Rattle.std.proofs.Common.{◌≡◌, ◌+◌, drop}
use Rattle.std.specs.List.{sum}
use Rattle.sd_left.specs.sparse.Stretch.{moves_each}
use Rattle.sd_left.proofs.sparse.stretch.moves_of_each.Given as goal

abbrev pub invariant-loop-point : goal.invariant-loop-point
invariant-loop-point l = l.moves + sum (moves_each l.tasks (drop l.point-index l.points)) ≡ sum (moves_each l.tasks l.points)
