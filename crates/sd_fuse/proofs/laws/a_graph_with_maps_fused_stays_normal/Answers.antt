use Rattle.sd_fuse.proofs.normal_lemmas.FusedNormal.{fused-normal}
use Rattle.sd_fuse.proofs.laws.a_graph_with_maps_fused_stays_normal.Goals as goal

pub returns : goal.returns
returns c = fused-normal
