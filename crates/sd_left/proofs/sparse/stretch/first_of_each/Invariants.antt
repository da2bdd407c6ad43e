use Rattle.std.proofs.Common.{◌≡◌, drop}
use Rattle.sd_left.specs.left.Telling.{count_of_first}
use Rattle.sd_left.specs.sparse.Stretch.{moves_each, left_each}
use Rattle.sd_left.proofs.sparse.stretch.first_of_each.Given as goal

abbrev pub invariant-loop-point : goal.invariant-loop-point
invariant-loop-point l = count_of_first (moves_each l.tasks (drop l.point-index l.points)) (left_each l.tasks (drop l.point-index l.points)) ≡ count_of_first (moves_each l.tasks l.points) (left_each l.tasks l.points)
