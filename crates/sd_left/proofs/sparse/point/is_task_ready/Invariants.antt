use Rattle.std.proofs.Common.{◌≡◌, map}
use Rattle.sd_work.specs.Residual.{is_ready}
use Rattle.sd_order.specs.table.Told.{told}
use Rattle.sd_left.specs.left.Telling.{flags_told}
use Rattle.sd_left.specs.sparse.Point.{tasks_at, task_tells}
use Rattle.sd_left.proofs.left_lemmas.Readiness.{ready_behind}
use Rattle.sd_left.proofs.sparse.point.is_task_ready.Given as goal

abbrev pub invariant-loop-other : goal.invariant-loop-other
invariant-loop-other l =
    is_ready (told l.tasks.order) (flags_told (map task_tells (tasks_at l.tasks.count l.point))) l.number
    ≡ ready_behind task_tells (tasks_at l.tasks.count l.point) (told l.tasks.order) l.number l.other
