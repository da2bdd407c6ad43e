use Rattle.sd_range.proofs.RangeLaws.{range-members}
use Rattle.sd_range.proofs.laws.points.values_are_steps_up_to_each_end.Goals as goal

pub returns : goal.returns
returns c = range-members
