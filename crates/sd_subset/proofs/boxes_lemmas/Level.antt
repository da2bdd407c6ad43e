-- Expressions in normal form differ by a constant exactly where they have the same terms.
use Rattle.std.proofs.Common.{◌≡◌, inl, inr, pos, neg_ℤ, Bool, true, false, refl, ap, sym, subst, arith}
use Rattle.std.proofs.lemmas.Int.{ints}
use Rattle.std.proofs.lemmas.Bool.{cases_Bool, true≢false}
use Rattle.sd_range.specs.Terms.{IsNormal, coefficient_of}
use Rattle.sd_range.specs.Arithmetic.{affine_difference}
use Rattle.sd_range.specs.declared.affine.Affine.{Affine}
use Rattle.sd_range.proofs.Coefficients.{same_coefficients, coefficient_of-combined}
use Rattle.sd_subset.specs.boxes.Hull.{differs_by_constant}
use Rattle.sd_subset.proofs.boxes_lemmas.Hulls.{none_there, no_difference}

-- terms of which the difference has none are the same
pub same-level : (a b : Affine) → IsNormal a.terms → IsNormal b.terms → differs_by_constant a b ≡ true → a.terms ≡ b.terms
same-level a b normal normal' is =
    same_coefficients a.terms b.terms normal normal'
    (λ variable.
    let gap = coefficient_of-combined b.terms (neg_ℤ (pos 1)) a.terms variable normal' normal in
    let none : coefficient_of (affine_difference b a).terms variable ≡ pos 0 = ap (λ terms. coefficient_of terms variable) (none_there (affine_difference b a).terms is) in
    omega (arith, ints, gap, none))

-- a difference has the terms of one from an expression with the same terms
pub level-same : (a b : Affine) → IsNormal a.terms → a.terms ≡ b.terms → differs_by_constant a b ≡ true
level-same a b normal is = subst (λ terms. differs_by_constant a (record { constant = b.constant; terms = terms }) ≡ true) is (no_difference a normal)

-- a test that holds exactly where the terms are the same
pub level-test : (test : Bool) (a b : Affine) → IsNormal a.terms → IsNormal b.terms → (test ≡ true → a.terms ≡ b.terms) → (a.terms ≡ b.terms → test ≡ true) → test ≡ differs_by_constant a b
level-test true a b normal normal' to from = sym (level-same a b normal (to refl))
level-test false a b normal normal' to from = elim (cases_Bool (differs_by_constant a b)) [
  | inl is ↦ absurd (true≢false (sym (from (same-level a b normal normal' is))))
  | inr is ↦ sym is
]
