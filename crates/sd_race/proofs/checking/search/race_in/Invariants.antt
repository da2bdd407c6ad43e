use Rattle.std.proofs.Common.{Option, length}
use Rattle.sd_race.specs.race.Pairs.{pairs_among, pairs_of}
use Rattle.sd_race.specs.race.Race.{Race}
use Rattle.sd_race.specs.checking.Found.{IsFirstOf}
use Rattle.sd_race.proofs.checking.search.race_in.Given as goal

-- the first race among the accesses that are left is that of all
abbrev pub invariant-loop-access : goal.invariant-loop-access
invariant-loop-access l = (race : Option Race) → IsFirstOf (pairs_among l.scope l.left) race → IsFirstOf (pairs_of l.scope) race

-- the accesses that are left
abbrev pub decreases-loop-access : goal.decreases-loop-access
decreases-loop-access l = length l.left
