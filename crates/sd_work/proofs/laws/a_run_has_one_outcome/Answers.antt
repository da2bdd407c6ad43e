use Rattle.sd_work.proofs.Outcomes.{Run-unique}
use Rattle.sd_work.proofs.laws.a_run_has_one_outcome.Goals as goal

pub returns : goal.returns
returns g c = Run-unique
