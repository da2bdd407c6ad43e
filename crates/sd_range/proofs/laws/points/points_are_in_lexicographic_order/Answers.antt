use Rattle.sd_range.proofs.RangeLaws.{points-in_order, points-distinct}
use Rattle.sd_range.proofs.laws.points.points_are_in_lexicographic_order.Goals as goal

pub returns-clause-order : goal.returns-clause-order
returns-clause-order c = points-in_order

pub returns-clause-distinct : goal.returns-clause-distinct
returns-clause-distinct c = points-distinct
