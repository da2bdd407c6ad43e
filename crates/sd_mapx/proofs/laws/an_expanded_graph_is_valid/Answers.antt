use Rattle.sd_mapx.proofs.MapLaws.{expanded_valid}
use Rattle.sd_mapx.proofs.laws.an_expanded_graph_is_valid.Goals as goal

pub returns : goal.returns
returns c = expanded_valid
