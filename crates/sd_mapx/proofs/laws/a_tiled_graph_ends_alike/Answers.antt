use Rattle.sd_mapx.proofs.TileLaws.{tiled_alike}
use Rattle.sd_mapx.proofs.laws.a_tiled_graph_ends_alike.Goals as goal

pub returns : goal.returns
returns c = record {
  ends = λ tree path sizes valid normal none. (tiled_alike tree path sizes valid normal none).0;
  began = λ tree path sizes valid normal none. (tiled_alike tree path sizes valid normal none).1;
}
