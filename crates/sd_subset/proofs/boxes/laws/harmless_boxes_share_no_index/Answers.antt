use Rattle.sd_subset.proofs.boxes_lemmas.Disjoint.{harmless-none}
use Rattle.sd_subset.proofs.boxes.laws.harmless_boxes_share_no_index.Goals as goal

pub returns : goal.returns
returns c = harmless-none
