-- The value of an affine expression, in exact whole numbers.
use Rattle.std.specs.Prelude.{ℕ, ◌<◌, ℤ, pos, ◌+ℤ◌, ◌*ℤ◌, List, [], ◌∷◌, length, slice_index_or, FitsSigned}
use Rattle.std.specs.Int.{w128}
use Rattle.std.specs.List.{All}
use Rattle.sd_range.specs.declared.affine.Affine.{Affine}

-- the value of a variable; one that has none counts as 0
abbrev pub variable_value : List ℤ → ℕ → ℤ
variable_value values variable = slice_index_or values variable (pos 0)

-- the sum of each coefficient times the value of its variable
abbrev pub terms_value : List ℤ → List (ℕ × ℤ) → ℤ
terms_value values [] = pos 0
terms_value values (term ∷ terms) = (term.1 *ℤ variable_value values term.0) +ℤ terms_value values terms

-- the constant plus that sum
abbrev pub affine_value : List ℤ → Affine → ℤ
affine_value values a = a.constant +ℤ terms_value values a.terms

-- each variable has a value, and the value of the whole fits 128 bits
pub record IsEvaluable (values : List ℤ) (a : Affine) : Type 0 where
  pub known : All (λ term. term.0 < length values) a.terms
  pub fits : FitsSigned w128 (affine_value values a)
