use Rattle.sd_work.proofs.Finished.{moves-finished}
use Rattle.sd_work.proofs.laws.a_finished_term_has_no_move.Goals as goal

pub returns : goal.returns
returns g c = moves-finished
