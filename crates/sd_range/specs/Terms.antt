-- The terms of an affine expression: pairs of a variable and its coefficient.
use Rattle.std.specs.Prelude.{◌≢◌, ℕ, ◌<◌, nat_eq, ℤ, pos, List, [], ◌∷◌, ⊤, if◌then◌else◌}

-- the variable comes before those of these terms
abbrev pub IsBelow : ℕ → List (ℕ × ℤ) → Type 0
IsBelow variable [] = ⊤
IsBelow variable (term ∷ terms) = variable < term.0

-- the normal form: the variables rise, and no coefficient is zero
abbrev pub IsNormal : List (ℕ × ℤ) → Type 0
IsNormal [] = ⊤
IsNormal (term ∷ terms) = (term.1 ≢ pos 0) × IsBelow term.0 terms × IsNormal terms

-- the coefficient of a variable; it is 0 where no term has the variable
abbrev pub coefficient_of : List (ℕ × ℤ) → ℕ → ℤ
coefficient_of [] variable = pos 0
coefficient_of (term ∷ terms) variable = if nat_eq term.0 variable then term.1 else coefficient_of terms variable
