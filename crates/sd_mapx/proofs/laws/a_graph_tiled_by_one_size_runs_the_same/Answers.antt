use Rattle.sd_mapx.proofs.TileLaws.{tiled_by_one_same}
use Rattle.sd_mapx.proofs.laws.a_graph_tiled_by_one_size_runs_the_same.Goals as goal

pub returns : goal.returns
returns c = tiled_by_one_same
