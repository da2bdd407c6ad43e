use Rattle.sd_fuse.proofs.valid_lemmas.ValidFusion.{fused-alike}
use Rattle.sd_fuse.proofs.laws.a_valid_graph_with_maps_fused_ends_alike.Goals as goal

pub returns : goal.returns
returns c = record {
  ends = λ distance tree path valid normal pools leads. (fused-alike distance tree path valid normal pools leads).0;
  began = λ distance tree path valid normal pools leads. (fused-alike distance tree path valid normal pools leads).1;
}
