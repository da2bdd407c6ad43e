use Rattle.sd_says.proofs.Outcomes.{source-comes, source-once}
use Rattle.sd_says.proofs.laws.every_source_says_one_outcome.Goals as goal

pub returns-clause-comes : goal.returns-clause-comes
returns-clause-comes c = source-comes

pub returns-clause-one : goal.returns-clause-one
returns-clause-one c = source-once
