use Rattle.std.proofs.Common.{rules, [], ◌∷◌, ◌++◌}
use Rattle.sd_part.proofs.SomeMarked.{one-more, left-next}
use Rattle.sd_part.proofs.marking.mark_boxes.Goals as goal

pub loop-one-preserved : goal.loop-one-preserved
loop-one-preserved c = record {
  left = left-next c.args.boxes.now c.loop-one.one-index c.one-item.result c.loop-one.overlay c.mark_box.new.overlay _ (search rules) (search rules) c.in_ok-mark_box.ensures.ok c.loop-one.invariant.left;
  made = (
    c.loop-one.invariant.made.0 ++ c.one-item.result ∷ [],
    one-more c.args.boxes.now c.loop-one.invariant.made.0 c.one-item.result c.args.overlay.now c.loop-one.overlay c.mark_box.new.overlay c.loop-one.invariant.made.1 c.in_ok-mark_box.ensures.ok,
  );
}
