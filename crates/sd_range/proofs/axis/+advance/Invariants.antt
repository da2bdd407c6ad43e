use Rattle.std.proofs.Common.{length}
use Rattle.sd_range.proofs.axis.+advance.Given as goal

abbrev pub decreases-advance : goal.decreases-advance
decreases-advance l = length l.axes.now
