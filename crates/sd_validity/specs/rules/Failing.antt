-- The first place of a graph at which a rule fails.
use Rattle.std.specs.Prelude.{◌≡◌, ℕ, List, [], ◌∷◌, ◌++◌, Option, Some, None, Bool, true, false, if◌then◌else◌}
use Rattle.sd_graph.specs.PlainTree.{GraphTree}
use Rattle.sd_validity.specs.rules.Places.{Place, all_places}

-- a rule asks something of a place, behind those before it: so what two places break together fails at the later one
abbrev pub Rule : Type 0
Rule = (before : List Place) → Place → Bool

-- the path of the first place at which a rule fails, behind places at which it was asked
abbrev pub failing : Rule → (before : List Place) → List Place → Option (List ℕ)
failing rule before [] = None
failing rule before (place ∷ places) = if rule before place then failing rule (before ++ place ∷ []) places else Some place.path

-- the first place of a graph at which a rule fails
abbrev pub first_failing : Rule → GraphTree → Option (List ℕ)
first_failing rule tree = failing rule [] (all_places tree)

-- a rule holds of a graph
abbrev pub Holds : Rule → GraphTree → Type 0
Holds rule tree = first_failing rule tree ≡ None

-- the first place at which a rule fails, with those before it, at each of which the rule holds, and those behind it
pub record IsFirst (rule : Rule) (places : List Place) (path : List ℕ) : Type 0 where
  pub passed : List Place
  pub place : Place
  pub rest : List Place
  pub split : places ≡ passed ++ place ∷ rest
  pub holds : (before : List Place) (other : Place) (others : List Place) → passed ≡ before ++ other ∷ others → rule before other ≡ true
  pub fails : rule passed place ≡ false
  pub told : path ≡ place.path
