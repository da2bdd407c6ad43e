-- The outer subset of an inner one, which is a subset of its spans.
use Rattle.std.specs.Prelude.{◌≡◌, pos, List, [], ◌∷◌, map, Bool, true, false, if◌then◌else◌, ⊤}
use Rattle.std.specs.List.{All}
use Rattle.sd_range.specs.Arithmetic.{affine_sum, IsRepresentable}
use Rattle.sd_range.specs.declared.affine.Affine.{Affine}
use Rattle.sd_range.specs.declared.subset.Dim.{Dim}
use Rattle.sd_range.specs.declared.subset.Dim.TheVariants.{Index, Span}
use Rattle.sd_range.specs.declared.subset.Subset.{Subset}
use Rattle.sd_subset.specs.elements.Way.{range_of}

-- where each range of a subset begins
abbrev pub begins : List Dim → List Affine
begins [] = []
begins (Index at ∷ dims) = begins dims
begins (Span range ∷ dims) = range.begin ∷ begins dims

-- the last index as the range from it to itself
abbrev pub last_as_span : List Dim → List Dim
last_as_span [] = []
last_as_span (dim ∷ []) = Span (range_of dim) ∷ []
last_as_span (dim ∷ next ∷ dims) = dim ∷ last_as_span (next ∷ dims)

-- a subset has a range
abbrev pub has_span : List Dim → Bool
has_span [] = false
has_span (Index at ∷ dims) = has_span dims
has_span (Span range ∷ dims) = true

-- the dimensions of an outer subset; one without a range has its last index as one
abbrev pub outer_dims : List Dim → List Dim
outer_dims dims = if has_span dims then dims else last_as_span dims

-- a dimension of an inner subset, counted from where the outer range begins
abbrev pub moved : Affine → Dim → Dim
moved begin (Index at) = Index (affine_sum begin at)
moved begin (Span range) =
    Span (record { begin = affine_sum begin range.begin; ends = map (affine_sum begin) range.ends; step = range.step })

-- each range of the outer dimensions takes the next inner dimension
abbrev pub composed : List Dim → List Dim → List Dim
composed [] inner = []
composed (Index at ∷ outer) inner = Index at ∷ composed outer inner
composed (Span range ∷ outer) [] = Span range ∷ composed outer []
composed (Span range ∷ outer) (dim ∷ inner) = moved range.begin dim ∷ composed outer inner

-- the outer subset of an inner one
abbrev pub composition : Subset → Subset → Subset
composition outer inner = record { dims = composed (outer_dims outer.dims) inner.dims }

-- a range has the step 1
abbrev pub HasUnitStep : Dim → Type 0
HasUnitStep (Index at) = ⊤
HasUnitStep (Span range) = range.step ≡ pos 1

-- the numbers of a dimension that is moved fit 128 bits
abbrev pub FitsMoved : Affine → Dim → Type 0
FitsMoved begin (Index at) = IsRepresentable (affine_sum begin at)
FitsMoved begin (Span range) =
    IsRepresentable (affine_sum begin range.begin) × All (λ end. IsRepresentable (affine_sum begin end)) range.ends
