use Rattle.std.proofs.Common.{◌<◌, ◌+◌, List, ℕ, length, map, sym, subst, arith}
use Rattle.sd_order.specs.table.Told.{told}
use Rattle.sd_left.specs.left.Telling.{flags_told}
use Rattle.sd_left.specs.sparse.Point.{tasks_at, task_tells, ready_at}
use Rattle.sd_left.proofs.left_lemmas.Readiness.{CountedUpTo, one-more, member-there}
use Rattle.sd_left.proofs.sparse.point.moves_of_tasks.Goals as goal

pub loop-number-preserved : goal.loop-number-preserved
loop-number-preserved c =
    let number = c.loop-number.number in
    let parts = tasks_at c.args.tasks.now.count c.args.point.now in
    let before = told c.args.tasks.now.order in
    let flags = flags_told (map task_tells parts) in
    let whole = ready_at c.args.tasks.now c.args.point.now in
    let within : number < length parts = omega (arith, c.loop-number-test.true, c.task_count-number-end.ensures) in
    let there = member-there parts number within in
    subst (λ (done : List ℕ). CountedUpTo task_tells parts before flags whole (number + 1) done) (sym c.in_ok-push.ensures.items)
    (one-more task_tells parts before flags whole number c.loop-number.moves.items there.0 c.moves_of_task.result within there.1 (c.moves_of_task.ensures.moves there.0 there.1) c.loop-number.invariant)
