-- The elements of a subset, and the indices inside a container.
use Rattle.std.specs.Prelude.{ℕ, ℤ, pos, List, [], ◌∷◌, map, Bool, true, false, ◌&&◌, int_le, int_lt, ⊤}
use Rattle.sd_range.specs.Affine.{affine_value}
use Rattle.sd_range.specs.Range.{IsRange, range_values, counted_from}
use Rattle.sd_range.specs.Points.{tuples}
use Rattle.sd_range.specs.declared.subset.Dim.{Dim}
use Rattle.sd_range.specs.declared.subset.Dim.TheVariants.{Index, Span}
use Rattle.sd_range.specs.declared.subset.Subset.{Subset}

-- the indices of one dimension, where the variables have these values: one, or those of a range
abbrev pub dim_values : List ℤ → Dim → List ℤ
dim_values values (Index at) = affine_value values at ∷ []
dim_values values (Span r) = range_values values r

-- a dimension of one index, or whose range has one to four ends and a step of at least 1
abbrev pub IsDim : Dim → Type 0
IsDim (Index at) = ⊤
IsDim (Span r) = IsRange r

-- the index tuples of a subset in row order, the last dimension fastest
abbrev pub elements : Subset → List ℤ → List (List ℤ)
elements subset values = tuples (map (dim_values values) subset.dims)

-- an index is inside a container of these extents: it has a number for each, from 0 to the extent less one
abbrev pub inside : List ℕ → List ℤ → Bool
inside [] [] = true
inside [] (number ∷ index) = false
inside (extent ∷ extents) [] = false
inside (extent ∷ extents) (number ∷ index) = (int_le (pos 0) number && int_lt number (pos extent)) && inside extents index

-- all indices of a container of these extents, in row order
abbrev pub whole : List ℕ → List (List ℤ)
whole extents = tuples (map (counted_from (pos 0) (pos 1)) extents)
