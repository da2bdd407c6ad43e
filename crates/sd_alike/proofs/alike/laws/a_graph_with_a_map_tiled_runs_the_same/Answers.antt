use Rattle.sd_alike.proofs.alike_lemmas.TiledMaps.{tiled_runs_same}
use Rattle.sd_alike.proofs.alike.laws.a_graph_with_a_map_tiled_runs_the_same.Goals as goal

pub returns : goal.returns
returns c = tiled_runs_same
