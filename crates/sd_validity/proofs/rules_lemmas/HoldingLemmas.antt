-- Where a rule holds of a graph, each of its places passes what the rule asks of a place alone.
use Rattle.std.proofs.Common.{◌≡◌, List, [], ◌∷◌, ◌++◌, Bool, true, false, ◌&&◌, Some, None, if◌then◌else◌, refl, sym, ◌∙◌}
use Rattle.std.specs.List.{list_all}
use Rattle.std.proofs.lemmas.List.Folds.{list_all-append}
use Rattle.sd_validity.specs.rules.Places.{Place}
use Rattle.sd_validity.specs.rules.Failing.{Rule, failing}

pub both : (a b : Bool) → (a && b) ≡ true → (a ≡ true) × (b ≡ true)
both true b is = (refl, is)
both false b is = cc

-- a test that a rule implies
abbrev pub Implies : Rule → (Place → Bool) → Type 0
Implies rule test = (before : List Place) (place : Place) → rule before place ≡ true → test place ≡ true

passed : (rule : Rule) (test : Place → Bool) → Implies rule test → (before : List Place) (place : Place) (places : List Place) →
    ((before : List Place) → failing rule before places ≡ None → list_all test places ≡ true) →
    (passes : Bool) → rule before place ≡ passes → (if passes then failing rule (before ++ place ∷ []) places else Some place.path) ≡ None → list_all test (place ∷ places) ≡ true
passed rule test implies before place places rest true passes none = λ i. implies before place passes i && rest (before ++ place ∷ []) none i
passed rule test implies before place places rest false passes none = cc

pub each_passes : (rule : Rule) (test : Place → Bool) → Implies rule test → (before places : List Place) → failing rule before places ≡ None → list_all test places ≡ true
each_passes rule test implies before [] none = refl
each_passes rule test implies before (place ∷ places) none =
    passed rule test implies before place places (λ before none. each_passes rule test implies before places none) (rule before place) refl none

-- what passes of a list passes of both of its parts
pub parts : (test : Place → Bool) (first rest : List Place) → list_all test (first ++ rest) ≡ true → (list_all test first ≡ true) × (list_all test rest ≡ true)
parts test first rest is = both (list_all test first) (list_all test rest) (sym (list_all-append test first rest) ∙ is)
