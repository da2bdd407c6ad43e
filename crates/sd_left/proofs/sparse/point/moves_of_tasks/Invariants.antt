use Rattle.std.proofs.Common.{map}
use Rattle.sd_order.specs.table.Told.{told}
use Rattle.sd_left.specs.left.Telling.{flags_told}
use Rattle.sd_left.specs.sparse.Point.{tasks_at, task_tells, ready_at}
use Rattle.sd_left.proofs.left_lemmas.Readiness.{CountedUpTo}
use Rattle.sd_left.proofs.sparse.point.moves_of_tasks.Given as goal

abbrev pub invariant-loop-number : goal.invariant-loop-number
invariant-loop-number l =
    CountedUpTo task_tells (tasks_at l.tasks.count l.point) (told l.tasks.order) (flags_told (map task_tells (tasks_at l.tasks.count l.point))) (ready_at l.tasks l.point) l.number l.moves.items
