-- The place that is told is the first at which a rule fails.
use Rattle.std.proofs.Common.{◌≡◌, ℕ, List, [], ◌∷◌, ◌++◌, Bool, true, false, Some, if◌then◌else◌, refl, ap, sym, subst, append-nil}
use Rattle.std.proofs.lemmas.Option.{same_Some}
use Rattle.sd_validity.specs.rules.Places.{Place}
use Rattle.sd_validity.specs.rules.Failing.{Rule, failing, IsFirst}

-- the same behind places at which the rule holds
record IsNext (rule : Rule) (before places : List Place) (path : List ℕ) : Type 0 where
  passed : List Place
  place : Place
  rest : List Place
  split : places ≡ passed ++ place ∷ rest
  holds : (first : List Place) (other : Place) (others : List Place) → passed ≡ first ++ other ∷ others → rule (before ++ first) other ≡ true
  fails : rule (before ++ passed) place ≡ false
  told : path ≡ place.path

one_behind : (before : List Place) (place : Place) (others : List Place) → (before ++ place ∷ []) ++ others ≡ before ++ place ∷ others
one_behind [] place others = refl
one_behind (first ∷ before) place others = ap (λ (rest : List Place). first ∷ rest) (one_behind before place others)

none_behind : (before : List Place) → before ≡ before ++ []
none_behind before = sym (append-nil before)

abbrev head_or : Place → List Place → Place
head_or place [] = place
head_or place (first ∷ places) = first

abbrev tail_of : List Place → List Place
tail_of [] = []
tail_of (first ∷ places) = places

-- an empty list has no member
never_behind : (first : List Place) (other : Place) (others : List Place) → [] ≡ first ++ other ∷ others → ⊥
never_behind [] other others same = cc
never_behind (one ∷ first) other others same = cc

same_place : (place other : Place) (places others : List Place) → place ∷ places ≡ other ∷ others → (place ≡ other) × (places ≡ others)
same_place place other places others same = (ap (λ (list : List Place). head_or place list) same, ap tail_of same)

-- the first of places that hold, or one of those behind it
held : (rule : Rule) (before : List Place) (place : Place) (passed : List Place) → rule before place ≡ true →
    ((first : List Place) (other : Place) (others : List Place) → passed ≡ first ++ other ∷ others → rule ((before ++ place ∷ []) ++ first) other ≡ true) →
    (first : List Place) (other : Place) (others : List Place) → place ∷ passed ≡ first ++ other ∷ others → rule (before ++ first) other ≡ true
held rule before place passed own behind [] other others same =
    let parts = same_place place other passed others same in
    subst (λ (list : List Place). rule list other ≡ true) (none_behind before) (subst (λ (one : Place). rule before one ≡ true) parts.0 own)
held rule before place passed own behind (one ∷ first) other others same =
    let parts = same_place place one passed (first ++ other ∷ others) same in
    let known = subst (λ (list : List Place). rule list other ≡ true) (one_behind before place first) (behind first other others parts.1) in
    subst (λ (one : Place). rule (before ++ one ∷ first) other ≡ true) parts.0 known

found : (rule : Rule) (before : List Place) (place : Place) (places : List Place) (path : List ℕ) → (failing rule (before ++ place ∷ []) places ≡ Some path → IsNext rule (before ++ place ∷ []) places path) →
    (holds : Bool) → rule before place ≡ holds → (if holds then failing rule (before ++ place ∷ []) places else Some place.path) ≡ Some path → IsNext rule before (place ∷ places) path
found rule before place places path next true holds is =
    let rest = next is in
    record {
      passed = place ∷ rest.passed;
      place = rest.place;
      rest = rest.rest;
      split = ap (λ (list : List Place). place ∷ list) rest.split;
      holds = held rule before place rest.passed holds rest.holds;
      fails = subst (λ (list : List Place). rule list rest.place ≡ false) (one_behind before place rest.passed) rest.fails;
      told = rest.told;
    }
found rule before place places path next false holds is = record {
  passed = [];
  place = place;
  rest = places;
  split = refl;
  holds = λ first other others same. absurd (never_behind first other others same);
  fails = subst (λ (list : List Place). rule list place ≡ false) (none_behind before) holds;
  told = sym (same_Some place.path path is);
}

next_is : (rule : Rule) (before places : List Place) (path : List ℕ) → failing rule before places ≡ Some path → IsNext rule before places path
next_is rule before [] path is = cc
next_is rule before (place ∷ places) path is = found rule before place places path (next_is rule (before ++ place ∷ []) places path) (rule before place) refl is

pub first_is : (rule : Rule) (places : List Place) (path : List ℕ) → failing rule [] places ≡ Some path → IsFirst rule places path
first_is rule places path is =
    let next = next_is rule [] places path is in
    record { passed = next.passed; place = next.place; rest = next.rest; split = next.split; holds = next.holds; fails = next.fails; told = next.told }
