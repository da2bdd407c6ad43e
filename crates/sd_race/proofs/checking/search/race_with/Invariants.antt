use Rattle.std.proofs.Common.{Option, map, drop}
use Rattle.sd_race.specs.race.Pairs.{pair_of}
use Rattle.sd_race.specs.race.Race.{Race}
use Rattle.sd_race.specs.checking.Found.{IsFirstOf}
use Rattle.sd_race.proofs.checking.search.race_with.Given as goal

-- the first race of those that are left is that of all
abbrev pub invariant-loop-other : goal.invariant-loop-other
invariant-loop-other l =
    (race : Option Race) → IsFirstOf (map (pair_of l.scope l.access) (drop l.other-index l.others)) race → IsFirstOf (map (pair_of l.scope l.access) l.others) race
