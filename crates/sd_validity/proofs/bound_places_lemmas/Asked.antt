-- A rule that asks of each place alone, or a rule that holds at each place whatever stands before it, holds of the graph.
use Rattle.std.proofs.Common.{◌≡◌, List, [], ◌∷◌, ◌++◌, map, true, None, refl}
use Rattle.std.specs.List.{AllByRecursion}
use Rattle.sd_validity.specs.rules.Places.{Place}
use Rattle.sd_validity.specs.rules.Failing.{Rule, failing}

-- behind whatever places, the rule holds at this one
abbrev pub HoldsAt : Rule → Place → Type 0
HoldsAt rule place = (before : List Place) → rule before place ≡ true

pub none_fails : (rule : Rule) (before places : List Place) → AllByRecursion (HoldsAt rule) places → failing rule before places ≡ None
none_fails rule before [] all = refl
none_fails rule before (place ∷ places) all = rw (all.0 before) (none_fails rule (before ++ place ∷ []) places all.1)

-- what holds of each member of a list holds of what is made of it
pub all_mapped : {A B : Type 0} (make : A → B) (P : A → Type 0) (Q : B → Type 0) → ((one : A) → P one → Q (make one)) → (members : List A) → AllByRecursion P members → AllByRecursion Q (map make members)
all_mapped make P Q so [] all = tt
all_mapped make P Q so (member ∷ members) all = (so member all.0, all_mapped make P Q so members all.1)
