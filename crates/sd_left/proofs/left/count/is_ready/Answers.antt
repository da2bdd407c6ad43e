use Rattle.std.proofs.Common.{inl, inr, refl, not}
use Rattle.sd_order.specs.table.Told.{told}
use Rattle.sd_left.specs.left.Tells.{tells}
use Rattle.sd_left.proofs.left_lemmas.Readiness.{goes-on, member-there}
use Rattle.sd_left.proofs.left.count.is_ready.Goals.{else-is_before-via-then-is_before+else-not-is_finished, else-is_before-via-else-is_before}
use Rattle.sd_left.proofs.left.count.is_ready.Goals as goal

pub loop-other-preserved : goal.loop-other-preserved
loop-other-preserved c =
    let other = c.loop-other.other in
    let parts = c.args.parts.now in
    let before = told c.args.order.now in
    let there = member-there parts other c.loop-other-test.true in
    elim c.else-is_before.branch [
      | else-is_before-via-then-is_before+else-not-is_finished w ↦
          goes-on tells parts before c.args.number _ other w.index-parts-other.result c.is_before.result w.is_finished.result c.loop-other-test.true w.index-parts-other.is
          c.is_before.ensures w.is_finished.ensures (inr w.if-not-is_finished.false) c.loop-other.invariant
      | else-is_before-via-else-is_before w ↦
          goes-on tells parts before c.args.number _ other there.0 c.is_before.result (not (tells there.0).is_unfinished) c.loop-other-test.true there.1
          c.is_before.ensures refl (inl w.if-is_before.false) c.loop-other.invariant
    ]
