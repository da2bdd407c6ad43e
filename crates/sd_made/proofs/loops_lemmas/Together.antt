-- Rules that ask what the places before have.
use Rattle.std.proofs.Common.{◌≡◌, List, [], ◌∷◌, ◌++◌, true, None, refl}
use Rattle.std.specs.List.{AllByRecursion}
use Rattle.sd_validity.specs.rules.Places.{Place}
use Rattle.sd_validity.specs.rules.Failing.{Rule, failing}
use Rattle.sd_validity.proofs.paths_lemmas.Found.{all_joined}

-- a rule holds of all places where it holds of each, behind others of which the same is known
pub none_fails_behind : (rule : Rule) (Known : Place → Type 0) → ((before : List Place) (place : Place) → AllByRecursion Known before → Known place → rule before place ≡ true) →
    (before places : List Place) → AllByRecursion Known before → AllByRecursion Known places → failing rule before places ≡ None
none_fails_behind rule Known holds before [] passed all = refl
none_fails_behind rule Known holds before (place ∷ places) passed all =
    rw (holds before place passed all.0) (none_fails_behind rule Known holds (before ++ place ∷ []) places (all_joined Known before (place ∷ []) passed (all.0, tt)) all.1)
