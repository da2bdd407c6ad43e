use Rattle.sd_confluence.proofs.left.Beside.{unseen, beside}
use Rattle.sd_confluence.proofs.laws.moves_of_parts_that_do_not_conflict_commute.Goals as goal

pub returns-clause-unseen : goal.returns-clause-unseen
returns-clause-unseen g c = unseen

pub returns-clause-commute : goal.returns-clause-commute
returns-clause-commute g c = beside
