-- Terms whose variables have other numbers, where several may have one number and some none: they weigh no more.
use Rattle.std.proofs.Common.{◌≡◌, ℕ, ◌*◌, ◌≤◌, ℤ, pos, ◌+ℤ◌, ◌*ℤ◌, List, [], ◌∷◌, Option, Some, None, unsigned_abs, refl, ap, sym, ◌∙◌, arith}
use Rattle.std.proofs.lemmas.Int.{ints}
use Rattle.std.proofs.Math.IntN.{*ℤ-zero}
use Rattle.sd_range.specs.Terms.{IsNormal, coefficient_of}
use Rattle.sd_range.specs.Arithmetic.{put_before, plus_term, combined}
use Rattle.sd_range.specs.Weight.{weight_of}
use Rattle.sd_range.proofs.Products.{*ℤ_assoc, *ℤ_distrib, *ℤ_distrib_left}
use Rattle.sd_range.proofs.Normal.{by_zero, by_order, put_before-zero, put_before-other, plus_term-before, plus_term-same, plus_term-after, normal-combined}
use Rattle.sd_range.proofs.Coefficients.{coefficient_of-combined, same_coefficients}
use Rattle.sd_range.proofs.Weights.{weight-combined}

-- the terms of a variable, if there is one
abbrev pub terms_of : Option ℕ → List (ℕ × ℤ)
terms_of None = []
terms_of (Some variable) = (variable, pos 1) ∷ []

terms_of-normal : (place : Option ℕ) → IsNormal (terms_of place)
terms_of-normal None = tt
terms_of-normal (Some variable) = ((λ zero. omega (arith, ints, zero)), tt, tt)

terms_of-weight : (place : Option ℕ) → weight_of (terms_of place) ≤ 1
terms_of-weight None = omega arith
terms_of-weight (Some variable) = omega arith

module _ (number : ℕ → Option ℕ) where
  -- the terms with these numbers
  abbrev pub renumbered : List (ℕ × ℤ) → List (ℕ × ℤ)
  renumbered [] = []
  renumbered (term ∷ terms) = combined (renumbered terms) term.1 (terms_of (number term.0))

  pub renumbered-normal : (terms : List (ℕ × ℤ)) → IsNormal (renumbered terms)
  renumbered-normal [] = tt
  renumbered-normal (term ∷ terms) = normal-combined (renumbered terms) term.1 (terms_of (number term.0)) (renumbered-normal terms)

  pub renumbered-weight : (terms : List (ℕ × ℤ)) → weight_of (renumbered terms) ≤ weight_of terms
  renumbered-weight [] = omega arith
  renumbered-weight (term ∷ terms) = omega (arith, ints, weight-combined (renumbered terms) term.1 (terms_of (number term.0)), renumbered-weight terms, once term.1 (terms_of (number term.0)) (terms_of-weight (number term.0))) where
    once : (factor : ℤ) (others : List (ℕ × ℤ)) → weight_of others ≤ 1 → unsigned_abs factor * weight_of others ≤ unsigned_abs factor
    once factor others light = grind arith

  -- how often a variable stands in the term of one with its new number
  abbrev unit : ℕ → (variable : ℕ) → ℤ
  unit place variable = coefficient_of (terms_of (number place)) variable

  -- the coefficient of a variable in the renumbered terms, as a sum over the terms
  abbrev total : (variable : ℕ) → List (ℕ × ℤ) → ℤ
  total variable [] = pos 0
  total variable (term ∷ terms) = total variable terms +ℤ (term.1 *ℤ unit term.0 variable)

  coefficient_of-renumbered : (variable : ℕ) (terms : List (ℕ × ℤ)) → coefficient_of (renumbered terms) variable ≡ total variable terms
  coefficient_of-renumbered variable [] = refl
  coefficient_of-renumbered variable (term ∷ terms) =
      coefficient_of-combined (renumbered terms) term.1 (terms_of (number term.0)) variable (renumbered-normal terms) (terms_of-normal (number term.0))
      ∙ ap (λ n. n +ℤ (term.1 *ℤ unit term.0 variable)) (coefficient_of-renumbered variable terms)

  total-put_before : (variable place : ℕ) (coefficient : ℤ) (terms : List (ℕ × ℤ)) →
      total variable (put_before place coefficient terms) ≡ total variable terms +ℤ (coefficient *ℤ unit place variable)
  total-put_before variable place coefficient terms =
      by_zero coefficient
      (λ is. rw (put_before-zero place coefficient terms is, is) (omega (arith, ints)))
      (λ other. rw (put_before-other place coefficient terms other) (omega (arith, ints)))

  total-plus_term : (variable : ℕ) (terms : List (ℕ × ℤ)) (place : ℕ) (coefficient : ℤ) →
      total variable (plus_term terms place coefficient) ≡ total variable terms +ℤ (coefficient *ℤ unit place variable)
  total-plus_term variable [] place coefficient = total-put_before variable place coefficient []
  total-plus_term variable (term ∷ terms) place coefficient =
      by_order place term.0
      (λ is. ap (total variable) (plus_term-before term terms place coefficient is) ∙ total-put_before variable place coefficient (term ∷ terms))
      (λ is. ap (total variable) (plus_term-same term terms place coefficient is)
      ∙ total-put_before variable place (term.1 +ℤ coefficient) terms
      ∙ rw (← is) (omega (arith, ints, *ℤ_distrib term.1 coefficient (unit place variable))))
      (λ is. ap (total variable) (plus_term-after term terms place coefficient is)
      ∙ omega (arith, ints, total-plus_term variable terms place coefficient))

  total-combined : (variable : ℕ) (terms : List (ℕ × ℤ)) (factor : ℤ) (others : List (ℕ × ℤ)) →
      total variable (combined terms factor others) ≡ total variable terms +ℤ (factor *ℤ total variable others)
  total-combined variable terms factor [] = omega (arith, ints, *ℤ-zero factor)
  total-combined variable terms factor (other ∷ others) =
      let product = other.1 *ℤ unit other.0 variable in
      let later = total variable others in
      total-plus_term variable (combined terms factor others) other.0 (factor *ℤ other.1)
      ∙ omega (arith, ints, total-combined variable terms factor others, *ℤ_assoc factor other.1 (unit other.0 variable), *ℤ_distrib_left factor later product)

  -- combining and renumbering may change places
  pub renumbered-combined : (terms : List (ℕ × ℤ)) (factor : ℤ) (others : List (ℕ × ℤ)) →
      renumbered (combined terms factor others) ≡ combined (renumbered terms) factor (renumbered others)
  renumbered-combined terms factor others =
      same_coefficients (renumbered (combined terms factor others)) (combined (renumbered terms) factor (renumbered others))
      (renumbered-normal (combined terms factor others))
      (normal-combined (renumbered terms) factor (renumbered others) (renumbered-normal terms))
      (λ variable. coefficient_of-renumbered variable (combined terms factor others)
      ∙ total-combined variable terms factor others
      ∙ sym (coefficient_of-combined (renumbered terms) factor (renumbered others) variable (renumbered-normal terms) (renumbered-normal others)
      ∙ ap (λ n. n +ℤ (factor *ℤ coefficient_of (renumbered others) variable)) (coefficient_of-renumbered variable terms)
      ∙ ap (λ n. total variable terms +ℤ (factor *ℤ n)) (coefficient_of-renumbered variable others)))
