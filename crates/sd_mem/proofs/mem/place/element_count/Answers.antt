use Rattle.std.proofs.Common.{◌∙◌, arith, ◌-◌, ◌^◌}
use Rattle.sd_mem.proofs.mem_lemmas.Counts.{held_next}
use Rattle.sd_mem.proofs.mem.place.element_count.Goals as goal

pub loop-extent-preserved : goal.loop-extent-preserved
loop-extent-preserved c = record {
  all = held_next (2 ^ 64 - 1) c.loop-extent.count c.saturating_mul-count.result c.args.shape.now c.loop-extent.extent-index c.loop-extent-test.true c.saturating_mul-count.ensures ∙ c.loop-extent.invariant.all;
  below = omega (arith, c.saturating_mul-count.ensures);
}
