-- What a search for a race answers.
use Rattle.std.specs.Prelude.{◌≡◌, ◌↔◌, List, Option, Some, None, Bool, IsTrue, ⊤}
use Rattle.std.specs.List.{AllByRecursion}
use Rattle.sd_graph.specs.PlainTree.{GraphTree}
use Rattle.sd_prop.specs.propagation.Scopes.{Scope}
use Rattle.sd_race.specs.race.Pairs.{Pair, IsAccepted, IsFreeOfRaces}
use Rattle.sd_race.specs.race.Race.{IsFirstRefused, IsRaceOf}
use Rattle.sd_race.specs.race.Race as plain
use Rattle.sd_race.specs.declared.checking.race.Race.{Race}
use Rattle.sd_race.specs.declared.checking.race.RaceError.{RaceError}
use Rattle.sd_race.specs.declared.checking.race.RaceError.TheVariants.{At, Memory}

-- a race as the definitions have it
abbrev pub race_of : Race → plain.Race
race_of race = record { at = race.at.steps; first = race.first; second = race.second }

-- the race is told of the first of these pairs that is not accepted; without a race each is
abbrev pub IsFirstOf : List Pair → Option plain.Race → Type 0
IsFirstOf pairs None = AllByRecursion IsAccepted pairs
IsFirstOf pairs (Some race) = (pair : Pair) × IsFirstRefused pairs pair × (race ≡ plain.race_of pair)

-- the error tells the race of a graph; want of memory tells nothing
abbrev pub TellsRaceOf : GraphTree → RaceError → Type 0
TellsRaceOf tree (At race) = IsRaceOf tree (race_of race)
TellsRaceOf tree Memory = ⊤

-- whether the scope that was found is free of races; none where none was found
abbrev pub IsVerdict : Option Bool → Option Scope → Type 0
IsVerdict None None = ⊤
IsVerdict None (Some scope) = ⊥
IsVerdict (Some is) None = ⊥
IsVerdict (Some is) (Some scope) = IsTrue is ↔ IsFreeOfRaces scope
