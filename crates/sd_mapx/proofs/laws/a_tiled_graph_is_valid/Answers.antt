use Rattle.sd_mapx.proofs.TileLaws.{tile_valid}
use Rattle.sd_mapx.proofs.laws.a_tiled_graph_is_valid.Goals as goal

pub returns : goal.returns
returns c = tile_valid
