use Rattle.std.proofs.Common.{ℕ, ◌∙◌, ap, arith, min, ◌*◌, ◌-◌, ◌^◌}
use Rattle.sd_valid.proofs.Counts.{held_next_of}
use Rattle.sd_validate.proofs.limits.elements.product_of.Goals as goal

pub loop-extent-preserved : goal.loop-extent-preserved
loop-extent-preserved c = record {
  all = held_next_of (2 ^ 128 - 1) c.loop-extent.product c.saturating_mul-product.result c.args.extents.now c.loop-extent.extent-index c.extent-item.result c.loop-extent-test.true c.extent-item.is
      (c.saturating_mul-product.ensures ∙ ap (λ (extent : ℕ). min (c.loop-extent.product * extent) (2 ^ 128 - 1)) c.constant_size.ensures)
      ∙ c.loop-extent.invariant.all;
  below = omega (arith, c.saturating_mul-product.ensures);
}
