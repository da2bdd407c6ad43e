use Rattle.sd_mapx.proofs.OrderLaws.{interchanged_alike}
use Rattle.sd_mapx.proofs.laws.an_interchanged_graph_ends_alike.Goals as goal

pub returns : goal.returns
returns c = record {
  ends = λ tree path valid normal none. (interchanged_alike tree path valid normal none).0;
  began = λ tree path valid normal none. (interchanged_alike tree path valid normal none).1;
}
