use Rattle.sd_cut.proofs.Merging.{left-merged}
use Rattle.sd_cut.proofs.laws.what_is_left_is_merged.Goals as goal

pub returns : goal.returns
returns c = left-merged
