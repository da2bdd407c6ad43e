use Rattle.std.proofs.Common.{◌≡◌, ◌+◌, ◌≤◌, map, drop}
use Rattle.std.specs.List.{sum}
use Rattle.sd_order.specs.table.Told.{told}
use Rattle.sd_left.specs.left.Telling.{flags_told, ready_moves}
use Rattle.sd_left.specs.sparse.Point.{tasks_at, task_tells, point_tells}
use Rattle.sd_left.proofs.sparse.point.moves_at.Given as goal

abbrev pub invariant-loop-number : goal.invariant-loop-number
invariant-loop-number l = (l.moves ≤ l.number) × (
    l.moves + sum (ready_moves (told l.tasks.order) (flags_told (map task_tells (tasks_at l.tasks.count l.point))) l.number (map task_tells (drop l.number (tasks_at l.tasks.count l.point))))
    ≡ (point_tells l.tasks l.point).moves)
