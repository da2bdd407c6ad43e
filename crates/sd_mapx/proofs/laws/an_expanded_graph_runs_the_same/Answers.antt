use Rattle.sd_mapx.proofs.MapLaws.{expanded_runs}
use Rattle.sd_mapx.proofs.laws.an_expanded_graph_runs_the_same.Goals as goal

pub returns : goal.returns
returns c = expanded_runs
