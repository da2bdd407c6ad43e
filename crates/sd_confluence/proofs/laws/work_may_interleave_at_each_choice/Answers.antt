use Rattle.sd_confluence.proofs.left.StillSafe.{runs-may}
use Rattle.sd_confluence.proofs.laws.work_may_interleave_at_each_choice.Goals as goal

pub returns : goal.returns
returns g c = runs-may
