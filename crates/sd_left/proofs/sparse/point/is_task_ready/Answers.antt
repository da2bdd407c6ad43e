use Rattle.std.proofs.Common.{◌<◌, inl, inr, length, map, not, refl, sym, ap, ◌∙◌, arith}
use Rattle.sd_order.specs.table.Told.{told}
use Rattle.sd_work.specs.Residual.{is_ready}
use Rattle.sd_left.specs.left.Telling.{flags_told}
use Rattle.sd_left.specs.sparse.Point.{tasks_at, task_tells}
use Rattle.sd_left.proofs.left_lemmas.Readiness.{goes-on, waits, member-there}
use Rattle.sd_left.proofs.sparse.point.is_task_ready.Goals.{else-is_before-via-then-is_before+else-is_task_left, else-is_before-via-else-is_before}
use Rattle.sd_left.proofs.sparse.point.is_task_ready.Goals as goal

pub returns-then-is_task_left : goal.returns-then-is_task_left
returns-then-is_task_left c =
    let other = c.loop-other.other in
    let parts = tasks_at c.args.tasks.now.count c.args.point.now in
    let before = told c.args.tasks.now.order in
    let there = member-there parts other (omega (arith, c.loop-other-test.true, c.task_count-other-end.ensures)) in
    let left = sym (c.is_task_left.ensures there.0 there.1) ∙ c.if-is_task_left.true in
    waits task_tells parts before c.args.number (is_ready before (flags_told (map task_tells parts)) c.args.number) other there.0 c.is_before.result (not (task_tells there.0).is_unfinished)
    (omega (arith, c.loop-other-test.true, c.task_count-other-end.ensures)) there.1 c.is_before.ensures refl c.if-is_before.true (ap not left) c.loop-other.invariant

pub loop-other-preserved : goal.loop-other-preserved
loop-other-preserved c =
    let other = c.loop-other.other in
    let parts = tasks_at c.args.tasks.now.count c.args.point.now in
    let before = told c.args.tasks.now.order in
    let within : other < length parts = omega (arith, c.loop-other-test.true, c.task_count-other-end.ensures) in
    let there = member-there parts other within in
    let whole = is_ready before (flags_told (map task_tells parts)) c.args.number in
    elim c.else-is_before.branch [
      | else-is_before-via-then-is_before+else-is_task_left w ↦
          goes-on task_tells parts before c.args.number whole other there.0 c.is_before.result (not (task_tells there.0).is_unfinished) within there.1
          c.is_before.ensures refl (inr (ap not (sym (w.is_task_left.ensures there.0 there.1) ∙ w.if-is_task_left.false))) c.loop-other.invariant
      | else-is_before-via-else-is_before w ↦
          goes-on task_tells parts before c.args.number whole other there.0 c.is_before.result (not (task_tells there.0).is_unfinished) within there.1
          c.is_before.ensures refl (inl w.if-is_before.false) c.loop-other.invariant
    ]
