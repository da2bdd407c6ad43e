-- The first pair that is not accepted, and what is told of it.
use Rattle.std.specs.Prelude.{◌≡◌, ℕ, List, ◌∷◌, ◌++◌}
use Rattle.std.specs.List.{AllByRecursion}
use Rattle.sd_graph.specs.PlainTree.{GraphTree}
use Rattle.sd_prop.specs.propagation.Accesses.{Access}
use Rattle.sd_race.specs.race.Pairs.{Pair, IsAccepted, all_pairs}

-- the first of these pairs that is not accepted: each before it is
pub record IsFirstRefused (pairs : List Pair) (pair : Pair) : Type 0 where
  pub passed : List Pair
  pub rest : List Pair
  pub split : pairs ≡ passed ++ pair ∷ rest
  pub accepted : AllByRecursion IsAccepted passed
  pub refused : IsAccepted pair → ⊥

-- a race: two accesses of the scope with a path
pub record Race : Type 0 where
  pub at : List ℕ
  pub first : Access
  pub second : Access

abbrev pub race_of : Pair → Race
race_of pair = record { at = pair.scope.path; first = pair.first; second = pair.second }

-- the race of a graph: its first pair that is not accepted
pub record IsRaceOf (tree : GraphTree) (race : Race) : Type 0 where
  pub pair : Pair
  pub first : IsFirstRefused (all_pairs tree) pair
  pub told : race ≡ race_of pair
