use Rattle.sd_fuse.proofs.paths_lemmas.ConditionsHold.{fused-there-alike}
use Rattle.sd_fuse.proofs.paths.laws.a_fused_graph_ends_alike.Goals as goal

pub returns : goal.returns
returns c = record {
  ends = λ tree first second valid normal none. (fused-there-alike tree first second valid normal none).0;
  began = λ tree first second valid normal none. (fused-there-alike tree first second valid normal none).1;
}
