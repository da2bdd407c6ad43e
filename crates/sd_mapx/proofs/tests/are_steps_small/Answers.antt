use Rattle.std.proofs.Common.{inl, inr, sym, ◌∙◌}
use Rattle.sd_mapx.proofs.TileLemmas.{no_size_small, no_param_small}
use Rattle.sd_mapx.proofs.tests.are_steps_small.Goals as goal

pub returns : goal.returns
returns c =
    elim c.in-None.ensures.steps [
      | inl sizes ↦ sym (c.loop-size.invariant ∙ no_size_small _ _ sizes.1.0)
      | inr params ↦ sym (c.loop-size.invariant ∙ no_param_small _ _ params.1.0)
    ]
