use Rattle.std.proofs.Common.{◌<◌, length, sym, ◌∙◌, arith}
use Rattle.sd_left.specs.sparse.Point.{tasks_at, task_tells}
use Rattle.sd_left.proofs.left_lemmas.Readiness.{member-there}
use Rattle.sd_left.proofs.sparse_lemmas.Tasks.{left-here, left-on}
use Rattle.sd_left.proofs.sparse.point.is_left_at.Goals as goal

pub returns-then-is_task_left : goal.returns-then-is_task_left
returns-then-is_task_left c =
    let number = c.loop-number.number in
    let parts = tasks_at c.args.tasks.now.count c.args.point.now in
    let within : number < length parts = omega (arith, c.loop-number-test.true, c.task_count-number-end.ensures) in
    let there = member-there parts number within in
    let left = sym (c.is_task_left.ensures there.0 there.1) ∙ c.if-is_task_left.true in
    sym (c.loop-number.invariant ∙ left-here task_tells parts number there.0 within there.1 left)

pub loop-number-preserved : goal.loop-number-preserved
loop-number-preserved c =
    let number = c.loop-number.number in
    let parts = tasks_at c.args.tasks.now.count c.args.point.now in
    let within : number < length parts = omega (arith, c.loop-number-test.true, c.task_count-number-end.ensures) in
    let there = member-there parts number within in
    let over = sym (c.is_task_left.ensures there.0 there.1) ∙ c.if-is_task_left.false in
    c.loop-number.invariant ∙ left-on task_tells parts number there.0 within there.1 over
