use Rattle.std.proofs.Common.{length}
use Rattle.sd_race.proofs.checking.clear.+are_clear_among.Given as goal

-- the accesses that are compared
abbrev pub decreases-are_clear_among : goal.decreases-are_clear_among
decreases-are_clear_among l = length l.items.now
