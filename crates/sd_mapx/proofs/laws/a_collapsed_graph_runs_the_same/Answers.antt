use Rattle.sd_mapx.proofs.MapLaws.{collapsed_runs}
use Rattle.sd_mapx.proofs.laws.a_collapsed_graph_runs_the_same.Goals as goal

pub returns : goal.returns
returns c = collapsed_runs
