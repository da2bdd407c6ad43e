use Rattle.sd_mapx.proofs.OrderLaws.{interchange_valid}
use Rattle.sd_mapx.proofs.laws.an_interchanged_graph_is_valid.Goals as goal

pub returns : goal.returns
returns c = interchange_valid
