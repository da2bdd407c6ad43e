use Rattle.std.proofs.Common.{◌+◌, length}
use Rattle.sd_race.proofs.checking.clear.+are_clear.Given as goal

-- the accesses that are compared
abbrev pub decreases-are_clear : goal.decreases-are_clear
decreases-are_clear l = length l.some.now + length l.others.now
