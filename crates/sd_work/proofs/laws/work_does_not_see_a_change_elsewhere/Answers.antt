use Rattle.sd_work.proofs.Spared.{moves-apply, fire-apply}
use Rattle.sd_work.proofs.laws.work_does_not_see_a_change_elsewhere.Goals as goal

pub returns-clause-moves : goal.returns-clause-moves
returns-clause-moves g c = moves-apply

pub returns-clause-work : goal.returns-clause-work
returns-clause-work g c = fire-apply
