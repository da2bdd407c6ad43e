-- Extents that are the same have one difference of their last number and their first.
use Rattle.std.specs.List.{Contains, list_all}
use Rattle.std.specs.Ordering.{int_eq}
use Rattle.std.proofs.Common.{◌≡◌, inl, inr, ℕ, ℤ, pos, neg_ℤ, ◌+ℤ◌, ◌-ℤ◌, ◌*ℤ◌, List, [], ◌∷◌, ◌++◌, map, true, refl, sym, ◌∙◌, subst, arith}
use Rattle.std.proofs.lemmas.Bool.{cases_Bool}
use Rattle.std.proofs.lemmas.Bool.Decides.{Decides-int_eq}
use Rattle.std.proofs.lemmas.Int.{ints}
use Rattle.std.proofs.lemmas.List.Elements.{Contains-append_left, Contains-append_right}
use Rattle.sd_range.specs.Terms.{IsNormal, coefficient_of}
use Rattle.sd_range.specs.Arithmetic.{combined, affine_difference}
use Rattle.sd_range.proofs.Members.{Contains-first, Contains-later}
use Rattle.sd_range.proofs.Normal.{by_same, normal-combined}
use Rattle.sd_range.proofs.Coefficients.{coefficient_of-rest, coefficient_of-combined, same_coefficients}
use Rattle.sd_graph.specs.Wiring.{has_number}
use Rattle.sd_validity.specs.rules.Shapes.{Extent, variables_in, is_coefficient_same, is_extent_same}
use Rattle.sd_safe.proofs.fit_lemmas.Members.{both, passes-at, found-member, member-found}

-- both ends of an extent are in normal form
pub record IsNormalExtent (extent : Extent) : Type 0 where
  pub last : IsNormal extent.last.terms
  pub begin : IsNormal extent.begin.terms

-- the variables of both ends of two extents
abbrev named_in : Extent → Extent → List ℕ
named_in one other = (variables_in one.last ++ variables_in one.begin) ++ (variables_in other.last ++ variables_in other.begin)

-- a variable that is not among the terms has the coefficient 0
none_of : (terms : List (ℕ × ℤ)) (variable : ℕ) → (Contains (map (λ (term : ℕ × ℤ). term.0) terms) variable → ⊥) → coefficient_of terms variable ≡ pos 0
none_of [] variable absent = refl
none_of (term ∷ terms) variable absent =
    by_same term.0 variable
    (λ is. absurd (absent (subst (λ v. Contains (term.0 ∷ map (λ (term : ℕ × ℤ). term.0) terms) v) is (Contains-first term.0 (map (λ (term : ℕ × ℤ). term.0) terms)))))
    (λ other. coefficient_of-rest term terms variable other
    ∙ none_of terms variable (λ member. absent (Contains-later term.0 (map (λ (term : ℕ × ℤ). term.0) terms) variable member)))

-- the same difference with one side less the other
less : (a b c d : ℤ) → a -ℤ b ≡ c -ℤ d → a +ℤ (neg_ℤ (pos 1) *ℤ b) ≡ c +ℤ (neg_ℤ (pos 1) *ℤ d)
less a b c d is = omega (arith, ints, is)

found_same : (a b : ℤ) → int_eq a b ≡ true → a ≡ b
found_same a b is = (Decides-int_eq a b).0 is

-- a variable that none names has coefficients of 0
all_none : (one other : Extent) (variable : ℕ) → (Contains (named_in one other) variable → ⊥) →
    coefficient_of one.last.terms variable -ℤ coefficient_of one.begin.terms variable ≡ coefficient_of other.last.terms variable -ℤ coefficient_of other.begin.terms variable
all_none one other variable absent =
    let own = variables_in one.last ++ variables_in one.begin in
    let others = variables_in other.last ++ variables_in other.begin in
    let first = none_of one.last.terms variable (λ m. absent (Contains-append_left own others variable (Contains-append_left (variables_in one.last) (variables_in one.begin) variable m))) in
    let second = none_of one.begin.terms variable (λ m. absent (Contains-append_left own others variable (Contains-append_right (variables_in one.last) (variables_in one.begin) variable m))) in
    let third = none_of other.last.terms variable (λ m. absent (Contains-append_right own others variable (Contains-append_left (variables_in other.last) (variables_in other.begin) variable m))) in
    let fourth = none_of other.begin.terms variable (λ m. absent (Contains-append_right own others variable (Contains-append_right (variables_in other.last) (variables_in other.begin) variable m))) in
    rw (first, second, third, fourth) refl

coefficients_same : (one other : Extent) (variable : ℕ) → list_all (is_coefficient_same one other) (named_in one other) ≡ true →
    coefficient_of one.last.terms variable -ℤ coefficient_of one.begin.terms variable ≡ coefficient_of other.last.terms variable -ℤ coefficient_of other.begin.terms variable
coefficients_same one other variable is = elim (cases_Bool (has_number (named_in one other) variable)) [
  | inl found ↦ found_same
      (coefficient_of one.last.terms variable -ℤ coefficient_of one.begin.terms variable)
      (coefficient_of other.last.terms variable -ℤ coefficient_of other.begin.terms variable)
      (passes-at (is_coefficient_same one other) (named_in one other) variable is (found-member (named_in one other) variable found))
  | inr lost ↦ all_none one other variable (λ member. let found = member-found (named_in one other) variable member in cc)
]

pub same_difference : (one other : Extent) → IsNormalExtent one → IsNormalExtent other → is_extent_same one other ≡ true →
    affine_difference one.last one.begin ≡ affine_difference other.last other.begin
same_difference one other normal normal' is =
    let split = both (int_eq (one.last.constant -ℤ one.begin.constant) (other.last.constant -ℤ other.begin.constant)) (list_all (is_coefficient_same one other) (named_in one other)) is in
    let factor = neg_ℤ (pos 1) in
    let constant = less one.last.constant one.begin.constant other.last.constant other.begin.constant
    (found_same (one.last.constant -ℤ one.begin.constant) (other.last.constant -ℤ other.begin.constant) split.0) in
    let terms = same_coefficients (combined one.last.terms factor one.begin.terms) (combined other.last.terms factor other.begin.terms)
    (normal-combined one.last.terms factor one.begin.terms normal.last) (normal-combined other.last.terms factor other.begin.terms normal'.last)
    (λ variable. coefficient_of-combined one.last.terms factor one.begin.terms variable normal.last normal.begin
    ∙ less (coefficient_of one.last.terms variable) (coefficient_of one.begin.terms variable) (coefficient_of other.last.terms variable) (coefficient_of other.begin.terms variable)
    (coefficients_same one other variable split.1)
    ∙ sym (coefficient_of-combined other.last.terms factor other.begin.terms variable normal'.last normal'.begin)) in
    λ i. record { constant = constant i; terms = terms i }
