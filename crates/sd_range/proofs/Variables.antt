-- A variable that is set has its value, and the others keep theirs, whatever the list of values is.
use Rattle.std.proofs.Common.{◌≡◌, ◌≢◌, ◌<◌, ℕ, zero, suc, ℤ, List, [], ◌∷◌, length, slice_set, refl, ap, arith}
use Rattle.sd_range.specs.Affine.{variable_value}
use Rattle.sd_range.specs.Variables.{with_variable}

pub variable_set : (variable : ℕ) (value : ℤ) (values : List ℤ) → variable_value (with_variable variable value values) variable ≡ value
variable_set zero value [] = refl
variable_set zero value (old ∷ values) = refl
variable_set (suc variable) value [] = variable_set variable value []
variable_set (suc variable) value (old ∷ values) = variable_set variable value values

pub variable_kept : (variable other : ℕ) (value : ℤ) (values : List ℤ) → variable ≢ other → variable_value (with_variable variable value values) other ≡ variable_value values other
variable_kept zero zero value values apart = absurd (apart refl)
variable_kept zero (suc other) value [] apart = refl
variable_kept zero (suc other) value (old ∷ values) apart = refl
variable_kept (suc variable) zero value [] apart = refl
variable_kept (suc variable) zero value (old ∷ values) apart = refl
variable_kept (suc variable) (suc other) value [] apart = variable_kept variable other value [] (λ same. apart (ap suc same))
variable_kept (suc variable) (suc other) value (old ∷ values) apart = variable_kept variable other value values (λ same. apart (ap suc same))

-- one that has a value is replaced
pub variable_replaced : (variable : ℕ) (value : ℤ) (values : List ℤ) → variable < length values → with_variable variable value values ≡ slice_set values variable value
variable_replaced variable value [] below = absurd (omega arith)
variable_replaced zero value (old ∷ values) below = refl
variable_replaced (suc variable) value (old ∷ values) below = ap (λ others. old ∷ others) (variable_replaced variable value values (omega arith))
