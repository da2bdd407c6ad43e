-- The coefficients of a combination, and normal forms by their coefficients.
use Rattle.std.proofs.Common.{◌≡◌, ◌≢◌, ℕ, ℤ, pos, ◌+ℤ◌, ◌*ℤ◌, List, [], ◌∷◌, nat_eq, if◌then◌else◌, refl, ap, sym, ◌∙◌, subst, arith}
use Rattle.std.proofs.lemmas.Bool.{eq-eqb, ne_eqb}
use Rattle.std.proofs.Math.IntN.{+ℤ_idl, +ℤ_idr, *ℤ-zero}
use Rattle.sd_range.specs.Terms.{IsBelow, IsNormal, coefficient_of}
use Rattle.sd_range.specs.Arithmetic.{put_before, plus_term, combined}
use Rattle.sd_range.proofs.Normal.{by_zero, by_order, by_same, put_before-zero, put_before-other, plus_term-before, plus_term-same, plus_term-after, below-lower, normal-combined}

-- a variable before all terms has the coefficient zero
pub coefficient_of-below : (terms : List (ℕ × ℤ)) (variable : ℕ) → IsNormal terms → IsBelow variable terms → coefficient_of terms variable ≡ pos 0
coefficient_of-below [] variable normal below = refl
coefficient_of-below (term ∷ terms) variable normal below =
    rw (ne_eqb term.0 variable (λ is. omega arith)) (coefficient_of-below terms variable normal.2 (below-lower variable term.0 terms below normal.1))

-- the first term has its own coefficient
pub coefficient_of-first : (term : ℕ × ℤ) (terms : List (ℕ × ℤ)) (variable : ℕ) → term.0 ≡ variable → coefficient_of (term ∷ terms) variable ≡ term.1
coefficient_of-first term terms variable is = rw (eq-eqb term.0 variable is) refl

-- the later terms have those of other variables
pub coefficient_of-rest : (term : ℕ × ℤ) (terms : List (ℕ × ℤ)) (variable : ℕ) → term.0 ≢ variable → coefficient_of (term ∷ terms) variable ≡ coefficient_of terms variable
coefficient_of-rest term terms variable other = rw (ne_eqb term.0 variable other) refl

-- after a term of the variable there is no other
pub coefficient_of-after : (term : ℕ × ℤ) (terms : List (ℕ × ℤ)) (variable : ℕ) → IsNormal (term ∷ terms) → term.0 ≡ variable → coefficient_of terms variable ≡ pos 0
coefficient_of-after term terms variable normal is = coefficient_of-below terms variable normal.2 (subst (λ v. IsBelow v terms) is normal.1)

-- what a term of one variable gives to the coefficient of another
abbrev given : ℕ → ℤ → ℕ → ℤ
given variable coefficient other = if nat_eq variable other then coefficient else pos 0

-- its whole coefficient to its own variable
given-own : (variable : ℕ) (coefficient : ℤ) (other : ℕ) → variable ≡ other → given variable coefficient other ≡ coefficient
given-own variable coefficient other is = rw (eq-eqb variable other is) refl

-- and none to another
given-none : (variable : ℕ) (coefficient : ℤ) (other : ℕ) → variable ≢ other → given variable coefficient other ≡ pos 0
given-none variable coefficient other is = rw (ne_eqb variable other is) refl

-- a term of coefficient zero gives none
given-zero : (variable : ℕ) (coefficient : ℤ) (other : ℕ) → coefficient ≡ pos 0 → given variable coefficient other ≡ pos 0
given-zero variable coefficient other zero =
    by_same variable other (λ is. given-own variable coefficient other is ∙ zero) (given-none variable coefficient other)

-- a term before others gives its coefficient
coefficient_of-put_before : (low : ℕ) (coefficient : ℤ) (terms : List (ℕ × ℤ)) (variable : ℕ) → IsNormal terms → IsBelow low terms →
    coefficient_of (put_before low coefficient terms) variable ≡ coefficient_of terms variable +ℤ given low coefficient variable
coefficient_of-put_before low coefficient terms variable normal below =
    by_zero coefficient
    (λ zero. rw (put_before-zero low coefficient terms zero, given-zero low coefficient variable zero) (sym (+ℤ_idr (coefficient_of terms variable))))
    (λ other. ap (λ all. coefficient_of all variable) (put_before-other low coefficient terms other)
    ∙ by_same low variable
    (λ is. coefficient_of-first (low, coefficient) terms variable is
    ∙ rw (given-own low coefficient variable is, coefficient_of-below terms variable normal (subst (λ v. IsBelow v terms) is below)) (sym (+ℤ_idl coefficient)))
    (λ is. coefficient_of-rest (low, coefficient) terms variable is
    ∙ rw (given-none low coefficient variable is) (sym (+ℤ_idr (coefficient_of terms variable)))))

-- a term more gives its coefficient
coefficient_of-plus_term : (terms : List (ℕ × ℤ)) (variable : ℕ) (coefficient : ℤ) (other : ℕ) → IsNormal terms →
    coefficient_of (plus_term terms variable coefficient) other ≡ coefficient_of terms other +ℤ given variable coefficient other
coefficient_of-plus_term [] variable coefficient other normal = coefficient_of-put_before variable coefficient [] other tt tt
coefficient_of-plus_term (term ∷ terms) variable coefficient other normal =
    by_order variable term.0
    (λ before. ap (λ all. coefficient_of all other) (plus_term-before term terms variable coefficient before)
    ∙ coefficient_of-put_before variable coefficient (term ∷ terms) other normal before)
    (λ same. ap (λ all. coefficient_of all other) (plus_term-same term terms variable coefficient same)
    ∙ coefficient_of-put_before variable (term.1 +ℤ coefficient) terms other normal.2 (subst (λ v. IsBelow v terms) (sym same) normal.1)
    ∙ by_same variable other
    (λ is. rw (given-own variable (term.1 +ℤ coefficient) other is, given-own variable coefficient other is, coefficient_of-first term terms other (sym same ∙ is), coefficient_of-after term terms other normal (sym same ∙ is))
    (+ℤ_idl (term.1 +ℤ coefficient)))
    (λ is. rw (given-none variable (term.1 +ℤ coefficient) other is, given-none variable coefficient other is, coefficient_of-rest term terms other (λ own. is (same ∙ own))) refl))
    (λ after. ap (λ all. coefficient_of all other) (plus_term-after term terms variable coefficient after)
    ∙ by_same term.0 other
    (λ is. let none : given variable coefficient other ≡ pos 0 = given-none variable coefficient other (λ own. omega arith) in
    rw (coefficient_of-first term (plus_term terms variable coefficient) other is, coefficient_of-first term terms other is, none) (sym (+ℤ_idr term.1)))
    (λ is. rw (coefficient_of-rest term (plus_term terms variable coefficient) other is, coefficient_of-rest term terms other is)
    (coefficient_of-plus_term terms variable coefficient other normal.2)))

-- the coefficient of a combination is the combination of the coefficients
pub coefficient_of-combined : (terms : List (ℕ × ℤ)) (factor : ℤ) (others : List (ℕ × ℤ)) (variable : ℕ) → IsNormal terms → IsNormal others →
    coefficient_of (combined terms factor others) variable ≡ coefficient_of terms variable +ℤ (factor *ℤ coefficient_of others variable)
coefficient_of-combined terms factor [] variable normal normal' = sym (ap (λ n. coefficient_of terms variable +ℤ n) (*ℤ-zero factor) ∙ +ℤ_idr (coefficient_of terms variable))
coefficient_of-combined terms factor (other ∷ others) variable normal normal' =
    coefficient_of-plus_term (combined terms factor others) other.0 (factor *ℤ other.1) variable (normal-combined terms factor others normal)
    ∙ rw (coefficient_of-combined terms factor others variable normal normal'.2)
    (by_same other.0 variable
    (λ is. rw (given-own other.0 (factor *ℤ other.1) variable is, coefficient_of-first other others variable is, coefficient_of-after other others variable normal' is, *ℤ-zero factor)
    (ap (λ n. n +ℤ (factor *ℤ other.1)) (+ℤ_idr (coefficient_of terms variable))))
    (λ is. rw (given-none other.0 (factor *ℤ other.1) variable is, coefficient_of-rest other others variable is) (+ℤ_idr _)))

-- a term whose variable is before all others is in one list alone
no_lower : (term : ℕ × ℤ) (terms others : List (ℕ × ℤ)) → IsNormal (term ∷ terms) → IsNormal others → IsBelow term.0 others →
    ((variable : ℕ) → coefficient_of (term ∷ terms) variable ≡ coefficient_of others variable) → ⊥
no_lower term terms others normal normal' below same =
    normal.0 (sym (coefficient_of-first term terms term.0 refl) ∙ same term.0 ∙ coefficient_of-below others term.0 normal' below)

-- normal forms of the same coefficients are one
pub same_coefficients : (a b : List (ℕ × ℤ)) → IsNormal a → IsNormal b → ((variable : ℕ) → coefficient_of a variable ≡ coefficient_of b variable) → a ≡ b
same_coefficients [] [] normal normal' same = refl
same_coefficients [] (other ∷ others) normal normal' same = absurd (no_lower other others [] normal' tt tt (λ variable. sym (same variable)))
same_coefficients (term ∷ terms) [] normal normal' same = absurd (no_lower term terms [] normal tt tt same)
same_coefficients (term ∷ terms) (other ∷ others) normal normal' same =
    by_order term.0 other.0
    (λ before. absurd (no_lower term terms (other ∷ others) normal normal' before same))
    (λ is.
    let coefficient : term.1 ≡ other.1 = sym (coefficient_of-first term terms term.0 refl) ∙ same term.0 ∙ coefficient_of-first other others term.0 (sym is) in
    let rest : terms ≡ others = same_coefficients terms others normal.2 normal'.2
    (λ variable. by_same term.0 variable
    (λ own. coefficient_of-after term terms variable normal own ∙ sym (coefficient_of-after other others variable normal' (sym is ∙ own)))
    (λ none. sym (coefficient_of-rest term terms variable none) ∙ same variable ∙ coefficient_of-rest other others variable (λ own. none (is ∙ own)))) in
    λ i. (is i, coefficient i) ∷ rest i)
    (λ after. absurd (no_lower other others (term ∷ terms) normal' normal after (λ variable. sym (same variable))))
