use Rattle.std.proofs.Common.{◌∙◌, arith, ◌-◌, ◌^◌}
use Rattle.sd_tasklet.proofs.tasklet_lemmas.Counts.{held_next}
use Rattle.sd_leaves.proofs.moves.effects.element_count.Goals as goal

pub loop-extent-preserved : goal.loop-extent-preserved
loop-extent-preserved c = record {
  all = held_next (2 ^ 128 - 1) c.loop-extent.count c.saturating_mul-count.result c.args.extents.now c.loop-extent.extent-index c.loop-extent-test.true c.saturating_mul-count.ensures ∙ c.loop-extent.invariant.all;
  below = omega (arith, c.saturating_mul-count.ensures);
}
