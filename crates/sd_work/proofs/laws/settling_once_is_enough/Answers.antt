use Rattle.sd_work.proofs.Settling.{settled-settled}
use Rattle.sd_work.proofs.laws.settling_once_is_enough.Goals as goal

pub returns : goal.returns
returns g c = settled-settled
