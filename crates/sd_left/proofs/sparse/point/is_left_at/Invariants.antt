use Rattle.std.proofs.Common.{◌≡◌, nat_lt, map, drop}
use Rattle.std.specs.List.{sum}
use Rattle.sd_left.specs.left.Telling.{unfinished_told}
use Rattle.sd_left.specs.sparse.Point.{tasks_at, task_tells, point_tells}
use Rattle.sd_left.proofs.sparse.point.is_left_at.Given as goal

abbrev pub invariant-loop-number : goal.invariant-loop-number
invariant-loop-number l = (point_tells l.tasks l.point).is_unfinished ≡ nat_lt 0 (sum (unfinished_told (map task_tells (drop l.number (tasks_at l.tasks.count l.point)))))
