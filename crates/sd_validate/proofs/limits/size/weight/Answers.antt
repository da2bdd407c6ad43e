use Rattle.std.proofs.Common.{ℕ, ◌∙◌, ap, arith, min, ◌+◌, ◌-◌, ◌^◌}
use Rattle.sd_validate.proofs.limits_lemmas.Levels.{weight_more}
use Rattle.sd_validate.proofs.limits.size.weight.Goals as goal

pub loop-term-preserved : goal.loop-term-preserved
loop-term-preserved c = record {
  all = weight_more _ (2 ^ 128 - 1) c.loop-term.weight c.saturating_add-weight.result c.args.terms.now c.loop-term.term-index c.loop-term-test.true
      (c.saturating_add-weight.ensures ∙ ap (λ (size : ℕ). min (c.loop-term.weight + size) (2 ^ 128 - 1)) c.coefficient_size.ensures)
      ∙ c.loop-term.invariant.all;
  below = omega (arith, c.saturating_add-weight.ensures);
}
