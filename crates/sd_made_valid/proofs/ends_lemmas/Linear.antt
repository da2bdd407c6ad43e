-- Sizes keep sums and products of affine expressions.
use Rattle.std.proofs.Common.{◌≡◌, ◌∙◌, ℕ, nat_eq, nat_lt, ℤ, pos, ◌+ℤ◌, ◌*ℤ◌, List, [], ◌∷◌, length, Bool, true, false, if◌then◌else◌, refl, ap, ap₂, arith}
use Rattle.std.specs.Ordering.{int_eq}
use Rattle.sd_range.specs.Arithmetic.{plus_term, combined, combination}
use Rattle.sd_range.specs.declared.affine.Affine.{Affine}
use Rattle.sd_range.proofs.AffineLaws.{affine_value-combination}
use Rattle.sd_valid.specs.BoundExpression.{terms_left, bound_affine}

abbrev Terms : Type 0
Terms = List (ℕ × ℤ)

module _ (count variable : ℕ) where
  -- ---- a variable that is left out

  put_out : (zero : Bool) (coefficient : ℤ) (terms : Terms) → nat_lt variable count ≡ true → terms_left count (if zero then terms else (variable, coefficient) ∷ terms) ≡ terms_left count terms
  put_out true coefficient terms out = refl
  put_out false coefficient terms out = rw out refl

  one_out : (less same here : Bool) (term : ℕ × ℤ) (terms : Terms) (coefficient : ℤ) → nat_lt variable term.0 ≡ less → nat_eq variable term.0 ≡ same → nat_lt term.0 count ≡ here → nat_lt variable count ≡ true →
      terms_left count (plus_term terms variable coefficient) ≡ terms_left count terms → terms_left count (plus_term (term ∷ terms) variable coefficient) ≡ terms_left count (term ∷ terms)
  one_out true same here term terms coefficient l s h out rest = rw l (put_out (int_eq coefficient (pos 0)) coefficient (term ∷ terms) out)
  one_out false true true term terms coefficient l s h out rest = rw (l, s, h) (put_out (int_eq (term.1 +ℤ coefficient) (pos 0)) (term.1 +ℤ coefficient) terms out)
  one_out false true false term terms coefficient l s h out rest = absurd (grind (arith, s, h, out))
  one_out false false true term terms coefficient l s h out rest = rw (l, s, h) rest
  one_out false false false term terms coefficient l s h out rest = rw (l, s, h) (ap (λ terms. term ∷ terms) rest)

  plus_out : (terms : Terms) (coefficient : ℤ) → nat_lt variable count ≡ true → terms_left count (plus_term terms variable coefficient) ≡ terms_left count terms
  plus_out [] coefficient out = put_out (int_eq coefficient (pos 0)) coefficient [] out
  plus_out (term ∷ terms) coefficient out =
      one_out (nat_lt variable term.0) (nat_eq variable term.0) (nat_lt term.0 count) term terms coefficient refl refl refl out (plus_out terms coefficient out)

  -- ---- one that is left

  put_left : (zero : Bool) (coefficient : ℤ) (terms : Terms) → nat_lt variable count ≡ false →
      terms_left count (if zero then terms else (variable, coefficient) ∷ terms) ≡ (if zero then terms_left count terms else (variable, coefficient) ∷ terms_left count terms)
  put_left true coefficient terms left = refl
  put_left false coefficient terms left = rw left refl

  one_left : (less same here : Bool) (term : ℕ × ℤ) (terms : Terms) (coefficient : ℤ) → nat_lt variable term.0 ≡ less → nat_eq variable term.0 ≡ same → nat_lt term.0 count ≡ here → nat_lt variable count ≡ false →
      terms_left count (plus_term terms variable coefficient) ≡ plus_term (terms_left count terms) variable coefficient →
      terms_left count (plus_term (term ∷ terms) variable coefficient) ≡ plus_term (terms_left count (term ∷ terms)) variable coefficient
  one_left true same true term terms coefficient l s h left rest = absurd (grind (arith, l, h, left))
  one_left true same false term terms coefficient l s h left rest = rw (l, h, l) (put_left (int_eq coefficient (pos 0)) coefficient (term ∷ terms) left ∙ rw h refl)
  one_left false true true term terms coefficient l s h left rest = absurd (grind (arith, s, h, left))
  one_left false true false term terms coefficient l s h left rest = rw (l, s, h, l, s) (put_left (int_eq (term.1 +ℤ coefficient) (pos 0)) (term.1 +ℤ coefficient) terms left)
  one_left false false true term terms coefficient l s h left rest = rw (l, s, h) rest
  one_left false false false term terms coefficient l s h left rest = rw (l, s, h, l, s) (ap (λ terms. term ∷ terms) rest)

  plus_left : (terms : Terms) (coefficient : ℤ) → nat_lt variable count ≡ false → terms_left count (plus_term terms variable coefficient) ≡ plus_term (terms_left count terms) variable coefficient
  plus_left [] coefficient left = put_left (int_eq coefficient (pos 0)) coefficient [] left
  plus_left (term ∷ terms) coefficient left =
      one_left (nat_lt variable term.0) (nat_eq variable term.0) (nat_lt term.0 count) term terms coefficient refl refl refl left (plus_left terms coefficient left)

-- ---- expressions

module _ (count : ℕ) where
  one_combined : (here : Bool) (terms : Terms) (factor : ℤ) (other : ℕ × ℤ) (others : Terms) → nat_lt other.0 count ≡ here →
      terms_left count (combined terms factor others) ≡ combined (terms_left count terms) factor (terms_left count others) →
      terms_left count (combined terms factor (other ∷ others)) ≡ combined (terms_left count terms) factor (terms_left count (other ∷ others))
  one_combined true terms factor other others h rest = rw h (plus_out count other.0 (combined terms factor others) (factor *ℤ other.1) h ∙ rest)
  one_combined false terms factor other others h rest =
      rw h (plus_left count other.0 (combined terms factor others) (factor *ℤ other.1) h ∙ ap (λ terms. plus_term terms other.0 (factor *ℤ other.1)) rest)

  combined_left : (terms : Terms) (factor : ℤ) (others : Terms) → terms_left count (combined terms factor others) ≡ combined (terms_left count terms) factor (terms_left count others)
  combined_left terms factor [] = refl
  combined_left terms factor (other ∷ others) = one_combined (nat_lt other.0 count) terms factor other others refl (combined_left terms factor others)

pub bound_combination : (sizes : List ℤ) (a : Affine) (factor : ℤ) (b : Affine) → bound_affine sizes (combination a factor b) ≡ combination (bound_affine sizes a) factor (bound_affine sizes b)
bound_combination sizes a factor b =
    ap₂ (λ constant terms. record { constant = constant; terms = terms }) (affine_value-combination a factor b sizes) (combined_left (length sizes) a.terms factor b.terms)
