use Rattle.sd_range.proofs.TupleLaws.{one_of_each, each_choice, length-tuples}
use Rattle.sd_range.proofs.laws.points.tuples_choose_one_of_each.Goals as goal

pub returns-clause-members : goal.returns-clause-members
returns-clause-members c = λ lists tuple. (one_of_each lists tuple, each_choice lists tuple)

pub returns-clause-count : goal.returns-clause-count
returns-clause-count c = length-tuples
