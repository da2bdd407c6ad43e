use Rattle.sd_pieces.proofs.cut_lemmas.OneMerged.{one-merged}
use Rattle.sd_pieces.proofs.cut.laws.what_is_merged_is_one_stack.Goals as goal

pub returns : goal.returns
returns c = one-merged
