-- How many values ranges have, as affine expressions.
use Rattle.std.specs.Prelude.{ℕ, pos, ◌-ℤ◌, List, [], ◌∷◌, ◌++◌, map, Bool, true, false, ◌&&◌}
use Rattle.std.specs.List.{list_all}
use Rattle.std.specs.Ordering.{int_eq}
use Rattle.sd_range.specs.Terms.{coefficient_of}
use Rattle.sd_range.specs.Arithmetic.{affine_zero}
use Rattle.sd_range.specs.declared.affine.Affine.{Affine}
use Rattle.sd_range.specs.declared.range.Range.{Range}

-- a last number and a first one: as many as there are from the first to the last
pub record Extent : Type 0 where
  pub last : Affine
  pub begin : Affine

-- the variables of an expression
abbrev pub variables_in : Affine → List ℕ
variables_in a = map (λ term. term.0) a.terms

-- the coefficients of a variable differ alike
abbrev pub is_coefficient_same : Extent → Extent → (variable : ℕ) → Bool
is_coefficient_same extent other variable =
    int_eq (coefficient_of extent.last.terms variable -ℤ coefficient_of extent.begin.terms variable)
    (coefficient_of other.last.terms variable -ℤ coefficient_of other.begin.terms variable)

-- both are as many, whatever the variables are
abbrev pub is_extent_same : Extent → Extent → Bool
is_extent_same extent other =
    int_eq (extent.last.constant -ℤ extent.begin.constant) (other.last.constant -ℤ other.begin.constant)
    && list_all (is_coefficient_same extent other)
    ((variables_in extent.last ++ variables_in extent.begin) ++ (variables_in other.last ++ variables_in other.begin))

-- those of dimensions, one after another
abbrev pub are_extents_same : List Extent → List Extent → Bool
are_extents_same [] [] = true
are_extents_same [] (other ∷ others) = false
are_extents_same (extent ∷ extents) [] = false
are_extents_same (extent ∷ extents) (other ∷ others) = is_extent_same extent other && are_extents_same extents others

-- the end of a range, which has one
abbrev pub end_of : List Affine → Affine
end_of [] = affine_zero
end_of (end ∷ ends) = end

-- how many values a range of step 1 has
abbrev pub range_extent : Range → Extent
range_extent range = record { last = end_of range.ends; begin = range.begin }

-- the numbers of a dimension, from 1 to its extent
abbrev pub dim_extent : (extent : Affine) → Extent
dim_extent extent = record { last = extent; begin = record { constant = pos 1; terms = [] } }

-- one value
abbrev pub one_value : Extent
one_value = record { last = affine_zero; begin = affine_zero }

-- those of ranges; without a range it is one value in one dimension
abbrev pub shape_of : List Range → List Extent
shape_of [] = one_value ∷ []
shape_of (range ∷ ranges) = map range_extent (range ∷ ranges)

-- each range has the step 1
abbrev pub are_steps_one : List Range → Bool
are_steps_one ranges = list_all (λ range. int_eq range.step (pos 1)) ranges
