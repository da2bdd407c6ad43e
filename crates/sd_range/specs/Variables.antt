-- Variables that are set in a list of values, however many values there are.
use Rattle.std.specs.Prelude.{ℕ, zero, suc, ℤ, pos, List, [], ◌∷◌}
use Rattle.std.specs.List.{fold}

-- a variable set; where there are fewer values, those between are 0
abbrev pub with_variable : ℕ → ℤ → List ℤ → List ℤ
with_variable zero value [] = value ∷ []
with_variable zero value (old ∷ values) = value ∷ values
with_variable (suc variable) value [] = pos 0 ∷ with_variable variable value []
with_variable (suc variable) value (old ∷ values) = old ∷ with_variable variable value values

-- variables set, one after another
abbrev pub with_variables : List (ℕ × ℤ) → List ℤ → List ℤ
with_variables assignments values = fold (λ values assignment. with_variable assignment.0 assignment.1 values) values assignments
