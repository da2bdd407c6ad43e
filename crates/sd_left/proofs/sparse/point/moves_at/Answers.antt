use Rattle.std.proofs.Common.{◌<◌, length, map, arith}
use Rattle.sd_order.specs.table.Told.{told}
use Rattle.sd_left.specs.left.Telling.{flags_told}
use Rattle.sd_left.specs.sparse.Point.{tasks_at, task_tells}
use Rattle.sd_left.proofs.left_lemmas.Readiness.{member-there}
use Rattle.sd_left.proofs.sparse_lemmas.Tasks.{moves-on, no-moves}
use Rattle.sd_left.proofs.sparse.point.moves_at.Goals as goal

pub loop-number-preserved : goal.loop-number-preserved
loop-number-preserved c =
    let number = c.loop-number.number in
    let parts = tasks_at c.args.tasks.now.count c.args.point.now in
    let before = told c.args.tasks.now.order in
    let within : number < length parts = omega (arith, c.loop-number-test.true, c.task_count-number-end.ensures) in
    let there = member-there parts number within in
    let more = moves-on task_tells parts before (flags_told (map task_tells parts)) number there.0 within there.1 in (
      omega (arith, c.loop-number.invariant.0, c.moves_of_task-moves.ensures.most),
      omega (arith, c.loop-number.invariant.1, more, c.moves_of_task-moves.ensures.moves there.0 there.1),
    )

pub returns : goal.returns
returns c =
    let parts = tasks_at c.args.tasks.now.count c.args.point.now in
    let none = no-moves task_tells parts (told c.args.tasks.now.order) (flags_told (map task_tells parts)) c.loop-number.number (omega (arith, c.loop-number-test.false, c.task_count-number-end.ensures)) in
    omega (arith, c.loop-number.invariant.1, none)
