use Rattle.std.proofs.Common.{Option, drop, take}
use Rattle.std.specs.List.{All, flat_map}
use Rattle.sd_race.specs.race.Pairs.{IsScopeAccepted, asked_pairs}
use Rattle.sd_race.specs.race.Race.{Race}
use Rattle.sd_race.specs.checking.Found.{IsFirstOf}
use Rattle.sd_race.proofs.checking.search.race_among.Given as goal

-- the first race of the scopes that are left is that of all, and those before them are accepted
abbrev pub invariant-loop-i : goal.invariant-loop-i
invariant-loop-i l = record {
  left : (race : Option Race) → IsFirstOf (flat_map asked_pairs (drop l.i l.all)) race → IsFirstOf (flat_map asked_pairs l.all) race;
  passed : All IsScopeAccepted (take l.i l.all);
}
