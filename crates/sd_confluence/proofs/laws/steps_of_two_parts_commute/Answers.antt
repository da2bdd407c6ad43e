use Rattle.sd_confluence.proofs.left.Steps.{stays_listed, steps}
use Rattle.sd_confluence.proofs.laws.steps_of_two_parts_commute.Goals as goal

pub returns-clause-stays : goal.returns-clause-stays
returns-clause-stays g c = stays_listed

pub returns-clause-commute : goal.returns-clause-commute
returns-clause-commute g c = steps
