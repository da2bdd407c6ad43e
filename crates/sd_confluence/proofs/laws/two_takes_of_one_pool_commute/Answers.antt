use Rattle.sd_confluence.proofs.left.TakeSteps.{take-stays, take-steps}
use Rattle.sd_confluence.proofs.laws.two_takes_of_one_pool_commute.Goals as goal

pub returns-clause-stays : goal.returns-clause-stays
returns-clause-stays g c = take-stays

pub returns-clause-commute : goal.returns-clause-commute
returns-clause-commute g c = take-steps
