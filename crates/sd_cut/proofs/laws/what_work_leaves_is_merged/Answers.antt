use Rattle.sd_cut.proofs.Merged.{committed-merged}
use Rattle.sd_cut.proofs.laws.what_work_leaves_is_merged.Goals as goal

pub returns : goal.returns
returns c = committed-merged
