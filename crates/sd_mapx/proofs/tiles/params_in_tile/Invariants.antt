use Rattle.std.proofs.Common.{◌≡◌, ◌++◌}
use Rattle.sd_exchange.specs.tiles.Tiled.{params_in_tile}
use Rattle.sd_mapx.proofs.tiles.params_in_tile.Given as goal

-- the parameters so far, with those that are left
abbrev pub invariant-loop-size : goal.invariant-loop-size
invariant-loop-size l = l.within.items ++ params_in_tile l.size-iterator.a.rest.now l.variable l.size-iterator.b.rest.now ≡ params_in_tile l.sizes l.first l.params
