use Rattle.std.proofs.Common.{◌≡◌, ◌++◌}
use Rattle.sd_exchange.specs.tiles.Tiled.{tile_params}
use Rattle.sd_mapx.proofs.tiles.tile_params.Given as goal

-- the tiles so far, with those of the parameters that are left
abbrev pub invariant-loop-size : goal.invariant-loop-size
invariant-loop-size l = l.tiles.items ++ tile_params l.size-iterator.a.rest.now l.variable l.size-iterator.b.rest.now ≡ tile_params l.sizes l.first l.params
