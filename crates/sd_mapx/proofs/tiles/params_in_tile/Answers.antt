use Rattle.std.proofs.Common.{inl, inr}
use Rattle.sd_mapx.proofs.TileLemmas.{all_made, no_size_within, no_param_within}
use Rattle.sd_mapx.proofs.tiles.params_in_tile.Goals as goal

pub returns : goal.returns
returns c =
    elim c.in-None.ensures.steps [
      | inl sizes ↦ all_made _ _ _ c.loop-size.invariant (no_size_within _ c.loop-size.variable _ sizes.1.0)
      | inr params ↦ all_made _ _ _ c.loop-size.invariant (no_param_within _ c.loop-size.variable _ params.1.0)
    ]
