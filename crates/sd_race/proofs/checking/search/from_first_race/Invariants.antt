use Rattle.std.proofs.Common.{◌≤◌, Option, length}
use Rattle.sd_race.specs.race.Pairs.{pairs_among, pairs_of}
use Rattle.sd_race.specs.race.Race.{Race}
use Rattle.sd_race.specs.checking.Found.{IsFirstOf}
use Rattle.sd_race.proofs.checking.search.from_first_race.Given as goal

-- the first race among the accesses that are left is that of all, and so many of them may have one
abbrev pub invariant-loop-size : goal.invariant-loop-size
invariant-loop-size l = record {
  passed : (race : Option Race) → IsFirstOf (pairs_among l.scope l.left) race → IsFirstOf (pairs_of l.scope) race;
  room : l.size ≤ length l.left;
}

-- half of them
abbrev pub decreases-loop-size : goal.decreases-loop-size
decreases-loop-size l = l.size
