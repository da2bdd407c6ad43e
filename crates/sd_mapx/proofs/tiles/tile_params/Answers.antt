use Rattle.std.proofs.Common.{inl, inr}
use Rattle.sd_mapx.proofs.TileLemmas.{all_made, no_size, no_param}
use Rattle.sd_mapx.proofs.tiles.tile_params.Goals as goal

pub returns : goal.returns
returns c =
    elim c.in-None.ensures.steps [
      | inl sizes ↦ all_made _ _ _ c.loop-size.invariant (no_size _ c.loop-size.variable _ sizes.1.0)
      | inr params ↦ all_made _ _ _ c.loop-size.invariant (no_param _ c.loop-size.variable _ params.1.0)
    ]
