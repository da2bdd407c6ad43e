-- Tests of lists, and numbers among others.
use Rattle.std.specs.List.{AllByRecursion, Contains, list_all, list_any}
use Rattle.std.proofs.Common.{◌≡◌, ◌⊎◌, inl, inr, ℕ, nat_eq, List, [], ◌∷◌, ◌++◌, Bool, true, false, not, ◌&&◌, ◌||◌, bytes_eq, refl, ap, sym, ◌∙◌, subst, arith}
use Rattle.std.proofs.lemmas.Bool.{cases_Bool, eq-eqb}
use Rattle.std.proofs.lemmas.Slice.Eq.{bytes_eq-Decides}
use Rattle.sd_range.proofs.Members.{Contains-nil, Contains-first, Contains-later, Contains-cases}
use Rattle.sd_graph.specs.Wiring.{has_number}

pub both : (a b : Bool) → (a && b) ≡ true → (a ≡ true) × (b ≡ true)
both true b is = (refl, is)
both false b is = cc

pub not_both : (a : Bool) → a ≡ true → not a ≡ true → ⊥
not_both true is isnt = cc
not_both false is isnt = cc

-- what passes as a list passes at a member
pub passes-at : {A : Type 0} (test : A → Bool) (all : List A) (a : A) → list_all test all ≡ true → Contains all a → test a ≡ true
passes-at test [] a is member = absurd (Contains-nil a member)
passes-at test (first ∷ all) a is member =
    let split = both (test first) (list_all test all) is in
    elim (Contains-cases first all a member) [
      | inl same ↦ sym (ap test same) ∙ split.0
      | inr later ↦ passes-at test all a split.1 later
    ]

-- a test that gives a fact of each gives it of all
pub each-passes : {A : Type 0} (P : A → Type 0) (test : A → Bool) → ((a : A) → test a ≡ true → P a) → (all : List A) → list_all test all ≡ true → AllByRecursion P all
each-passes P test gives [] is = tt
each-passes P test gives (a ∷ all) is =
    let split = both (test a) (list_all test all) is in
    (gives a split.0, each-passes P test gives all split.1)

-- a test and a fact together
pub each-passes-with : {A : Type 0} (P Q : A → Type 0) (test : A → Bool) → ((a : A) → test a ≡ true → P a → Q a) → (all : List A) → list_all test all ≡ true → AllByRecursion P all → AllByRecursion Q all
each-passes-with P Q test gives [] is each = tt
each-passes-with P Q test gives (a ∷ all) is each =
    let split = both (test a) (list_all test all) is in
    (gives a split.0 each.0, each-passes-with P Q test gives all split.1 each.1)

-- of lists put together
pub each-append : {A : Type 0} (P : A → Type 0) (all others : List A) → AllByRecursion P all → AllByRecursion P others → AllByRecursion P (all ++ others)
each-append P [] others each other = other
each-append P (a ∷ all) others each other = (each.0, each-append P all others each.1 other)

pub each-parts : {A : Type 0} (P : A → Type 0) (all others : List A) → AllByRecursion P (all ++ others) → AllByRecursion P all × AllByRecursion P others
each-parts P [] others each = (tt, each)
each-parts P (a ∷ all) others each = let rest = each-parts P all others each.1 in ((each.0, rest.0), rest.1)

pub same_number : (a b : ℕ) → nat_eq a b ≡ true → a ≡ b
same_number a b is = grind (arith, is)

-- a number that is found is a member, and the other way
pub found-member : (numbers : List ℕ) (number : ℕ) → has_number numbers number ≡ true → Contains numbers number
found-member [] number is = cc
found-member (first ∷ numbers) number is = elim (cases_Bool (nat_eq number first)) [
  | inl same ↦ subst (λ n. Contains (first ∷ numbers) n) (sym (same_number number first same)) (Contains-first first numbers)
  | inr other ↦ Contains-later first numbers number (found-member numbers number (subst (λ b. (b || has_number numbers number) ≡ true) other is))
]

pub or-right : (a b : Bool) → b ≡ true → (a || b) ≡ true
or-right true b is = refl
or-right false b is = is

pub or-left : (a b : Bool) → a ≡ true → (a || b) ≡ true
or-left true b is = refl
or-left false b is = cc

pub member-found : (numbers : List ℕ) (number : ℕ) → Contains numbers number → has_number numbers number ≡ true
member-found [] number member = absurd (Contains-nil number member)
member-found (first ∷ numbers) number member = elim (Contains-cases first numbers number member) [
  | inl same ↦ or-left (nat_eq number first) (has_number numbers number) (eq-eqb number first (sym same))
  | inr later ↦ or-right (nat_eq number first) (has_number numbers number) (member-found numbers number later)
]

pub one_of_two : (a b : Bool) → (a || b) ≡ true → (a ≡ true) ⊎ (b ≡ true)
one_of_two true b is = inl refl
one_of_two false b is = inr is

pub same_bytes : (a b : List ℕ) → a ≡ b → bytes_eq a b ≡ true
same_bytes a b same = (bytes_eq-Decides a b).1 same

-- what holds of each member holds of each
pub each-member : {A : Type 0} (P : A → Type 0) (all : List A) → ((a : A) → Contains all a → P a) → AllByRecursion P all
each-member P [] gives = tt
each-member P (a ∷ all) gives = (gives a (Contains-first a all), each-member P all (λ other member. gives other (Contains-later a all other member)))

-- where some pass, one does
pub some-passes : {A : Type 0} (test : A → Bool) (all : List A) → list_any test all ≡ true → (a : A) × Contains all a × (test a ≡ true)
some-passes test [] is = cc
some-passes test (first ∷ all) is = elim (one_of_two (test first) (list_any test all) is) [
  | inl here ↦ (first, Contains-first first all, here)
  | inr there ↦ (let rest = some-passes test all there in (rest.0, Contains-later first all rest.0 rest.1, rest.2))
]
