-- How large the coefficients of an affine expression are together.
use Rattle.std.specs.Prelude.{ℕ, ◌+◌, ℤ, List, [], ◌∷◌, unsigned_abs}

-- the sum of the coefficients' sizes
abbrev pub weight_of : List (ℕ × ℤ) → ℕ
weight_of [] = 0
weight_of (term ∷ terms) = unsigned_abs term.1 + weight_of terms
