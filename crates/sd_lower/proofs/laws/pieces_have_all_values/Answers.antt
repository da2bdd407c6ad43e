use Rattle.std.proofs.Common.{min}
use Rattle.sd_lower.proofs.Shares.{some-values, first-begin, next, last-end, all-values, evenly}
use Rattle.sd_lower.proofs.laws.pieces_have_all_values.Goals as goal

pub returns-clause-some : goal.returns-clause-some
returns-clause-some c = some-values

pub returns-clause-first : goal.returns-clause-first
returns-clause-first c = first-begin

pub returns-clause-next : goal.returns-clause-next
returns-clause-next c = λ values workers piece. next values piece (min values workers)

pub returns-clause-last : goal.returns-clause-last
returns-clause-last c = last-end

pub returns-clause-all : goal.returns-clause-all
returns-clause-all c = all-values

pub returns-clause-even : goal.returns-clause-even
returns-clause-even c = λ values workers piece other. evenly values piece other (min values workers)
