-- Sums, differences, products and substitution of affine expressions, in their normal form.
use Rattle.std.specs.Prelude.{ℕ, nat_eq, nat_lt, ℤ, pos, neg_ℤ, ◌+ℤ◌, ◌*ℤ◌, List, [], ◌∷◌, not, if◌then◌else◌, FitsSigned}
use Rattle.std.specs.Ordering.{int_eq}
use Rattle.std.specs.Int.{w128}
use Rattle.std.specs.List.{All, filter}
use Rattle.sd_range.specs.Terms.{coefficient_of}
use Rattle.sd_range.specs.declared.affine.Affine.{Affine}

-- a term before others, left out where its coefficient is zero
abbrev pub put_before : ℕ → ℤ → List (ℕ × ℤ) → List (ℕ × ℤ)
put_before variable coefficient terms = if int_eq coefficient (pos 0) then terms else (variable, coefficient) ∷ terms

-- a coefficient more for a variable, in the variable's place
abbrev pub plus_term : List (ℕ × ℤ) → ℕ → ℤ → List (ℕ × ℤ)
plus_term [] variable coefficient = put_before variable coefficient []
plus_term (term ∷ terms) variable coefficient =
    if nat_lt variable term.0 then put_before variable coefficient (term ∷ terms)
    else if nat_eq variable term.0 then put_before variable (term.1 +ℤ coefficient) terms
    else term ∷ plus_term terms variable coefficient

-- the terms, and the others so many times
abbrev pub combined : List (ℕ × ℤ) → ℤ → List (ℕ × ℤ) → List (ℕ × ℤ)
combined terms factor [] = terms
combined terms factor (other ∷ others) = plus_term (combined terms factor others) other.0 (factor *ℤ other.1)

-- the expression, and the other so many times
abbrev pub combination : Affine → ℤ → Affine → Affine
combination a factor b = record { constant = a.constant +ℤ (factor *ℤ b.constant); terms = combined a.terms factor b.terms }

abbrev pub affine_zero : Affine
affine_zero = record { constant = pos 0; terms = [] }

abbrev pub affine_sum : Affine → Affine → Affine
affine_sum a b = combination a (pos 1) b

abbrev pub affine_difference : Affine → Affine → Affine
affine_difference a b = combination a (neg_ℤ (pos 1)) b

abbrev pub affine_product : ℤ → Affine → Affine
affine_product factor a = combination affine_zero factor a

-- the terms of other variables
abbrev pub others_of : ℕ → List (ℕ × ℤ) → List (ℕ × ℤ)
others_of variable terms = filter (λ term. not (nat_eq term.0 variable)) terms

-- the expression less its term of the variable
abbrev pub without : ℕ → Affine → Affine
without variable a = record { constant = a.constant; terms = others_of variable a.terms }

-- the expression with another in the place of a variable
abbrev pub substituted : ℕ → Affine → Affine → Affine
substituted variable by a = combination (without variable a) (coefficient_of a.terms variable) by

-- the numbers of the expression fit 128 bits
pub record IsRepresentable (a : Affine) : Type 0 where
  pub constant : FitsSigned w128 a.constant
  pub terms : All (λ term. FitsSigned w128 term.1) a.terms
