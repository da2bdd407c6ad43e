use Rattle.sd_cut.proofs.Prepared.{ready-prepared}
use Rattle.sd_cut.proofs.laws.a_ready_cut_is_prepared.Goals as goal

pub returns : goal.returns
returns c = ready-prepared
