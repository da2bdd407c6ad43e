use Rattle.sd_moves.proofs.settling_lemmas.Staying.{settle-stays, parts-stay}
use Rattle.sd_moves.proofs.settling.laws.work_that_may_not_go_on_stays.Goals as goal

pub returns : goal.returns
returns g c = record { term = settle-stays; parts = parts-stay }
