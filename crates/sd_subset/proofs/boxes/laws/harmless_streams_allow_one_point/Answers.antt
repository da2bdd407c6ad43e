use Rattle.sd_subset.proofs.boxes_lemmas.Disjoint.{harmless-one}
use Rattle.sd_subset.proofs.boxes.laws.harmless_streams_allow_one_point.Goals as goal

pub returns : goal.returns
returns c = harmless-one
