use Rattle.sd_mapx.proofs.MapLaws.{collapsed_valid}
use Rattle.sd_mapx.proofs.laws.a_collapsed_graph_is_valid.Goals as goal

pub returns : goal.returns
returns c = collapsed_valid
