-- Subsets of containers.
use Rattle.std.specs.Prelude.{ℕ, suc, ℤ, pos, List, [], ◌∷◌, map, None, Bool, true, false, ◌&&◌}
use Rattle.std.specs.Ordering.{int_eq}
use Rattle.sd_lex.specs.PlainTree.{Dimension, index, span}
use Rattle.sd_range.specs.Arithmetic.{affine_zero}
use Rattle.sd_range.specs.declared.affine.Affine.{Affine}
use Rattle.sd_range.specs.declared.subset.Dim.{Dim}
use Rattle.sd_range.specs.declared.subset.Dim.TheVariants.{Index, Span}
use Rattle.sd_program.specs.Names.{Named}
use Rattle.sd_program.specs.Affines.{affine_of}
use Rattle.sd_task.specs.in_force.Ranges.{affine_or, range_between}

-- the whole of a container
abbrev pub whole : List Affine → List Dim
whole extents = map (λ extent. Span (range_between affine_zero extent None)) extents

-- the first element of a container
abbrev pub first_element : List Affine → List Dim
first_element extents = map (λ extent. Index affine_zero) extents

-- one dimension: a begin that is left out is 0, and an end the extent
abbrev pub dim_of : Named ℕ → Dimension → (extent : Affine) → Dim
dim_of variables (index at) extent = Index (affine_of variables at)
dim_of variables (span begin end step) extent = Span (range_between (affine_or affine_zero variables begin) (affine_or extent variables end) step)

-- dimensions as they are written, each with its extent
abbrev pub dims_of : Named ℕ → List Dimension → List Affine → List Dim
dims_of variables [] extents = []
dims_of variables (dimension ∷ dimensions) [] = []
dims_of variables (dimension ∷ dimensions) (extent ∷ extents) = dim_of variables dimension extent ∷ dims_of variables dimensions extents

-- a subset: without a dimension it is the whole container
abbrev pub subset_of : Named ℕ → List Dimension → List Affine → List Dim
subset_of variables [] extents = whole extents
subset_of variables (dimension ∷ dimensions) extents = dims_of variables (dimension ∷ dimensions) extents

abbrev pub has_no_term : List (ℕ × ℤ) → Bool
has_no_term [] = true
has_no_term (term ∷ terms) = false

-- each extent is the constant 1
abbrev pub are_units : List Affine → Bool
are_units [] = true
are_units (extent ∷ extents) = (int_eq extent.constant (pos 1) && has_no_term extent.terms) && are_units extents

abbrev pub first_or_whole : (are_units : Bool) → List Affine → List Dim
first_or_whole true extents = first_element extents
first_or_whole false extents = whole extents

-- the subset of a tasklet's connector: without a dimension it is the element of a container that has one alone
abbrev pub connector_subset : Named ℕ → List Dimension → List Affine → List Dim
connector_subset variables [] extents = first_or_whole (are_units extents) extents
connector_subset variables (dimension ∷ dimensions) extents = subset_of variables (dimension ∷ dimensions) extents

-- how many dimensions are ranges
abbrev pub ranges_among : List Dim → ℕ
ranges_among [] = 0
ranges_among (Index at ∷ dims) = ranges_among dims
ranges_among (Span range ∷ dims) = suc (ranges_among dims)
