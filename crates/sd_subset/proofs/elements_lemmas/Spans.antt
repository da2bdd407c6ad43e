-- Outer dimensions, of which the last index may be a range.
use Rattle.std.proofs.Common.{◌≡◌, ◌<◌, ◌≤◌, ℤ, pos, ◌+ℤ◌, ◌*ℤ◌, List, [], ◌∷◌, length, Bool, true, false, if◌then◌else◌, refl, ap, arith}
use Rattle.std.proofs.lemmas.Int.{ints}
use Rattle.sd_range.specs.Affine.{affine_value}
use Rattle.sd_range.specs.declared.subset.Dim.{Dim}
use Rattle.sd_range.specs.declared.subset.Dim.TheVariants.{Index, Span}
use Rattle.sd_graph.specs.Context.{index_at}
use Rattle.sd_subset.specs.elements.Way.{range_of}
use Rattle.std.specs.List.{AllByRecursion}
use Rattle.sd_subset.specs.elements.Composition.{has_span, last_as_span, outer_dims, HasUnitStep}

-- an index before others stays
pub last_as_span-before : (dim : Dim) (dims : List Dim) → 0 < length dims → last_as_span (dim ∷ dims) ≡ dim ∷ last_as_span dims
last_as_span-before dim [] some = absurd (omega arith)
last_as_span-before dim (next ∷ dims) some = refl

-- the last one is a range
pub last_as_span-last : (dim : Dim) (dims : List Dim) → length dims ≤ 0 → last_as_span (dim ∷ dims) ≡ Span (range_of dim) ∷ dims
last_as_span-last dim [] none = refl
last_as_span-last dim (next ∷ dims) none = absurd (omega arith)

-- a range that is an index has at its first place that index
first_place : (number : ℤ) → number +ℤ (pos 1 *ℤ pos 0) ≡ number
first_place number = omega (arith, ints)

indices-at : (dims : List Dim) (values : List ℤ) → has_span dims ≡ false → index_at (last_as_span dims) values (pos 0 ∷ []) ≡ index_at dims values []
indices-at [] values none = refl
indices-at (Index at ∷ []) values none = ap (λ (number : ℤ). number ∷ []) (first_place (affine_value values at))
indices-at (Index at ∷ next ∷ dims) values none = ap (λ (index : List ℤ). affine_value values at ∷ index) (indices-at (next ∷ dims) values none)
indices-at (Span range ∷ dims) values none = cc

-- without a range the index at the first place is the subset's own
pub own_index : (dims : List Dim) (values : List ℤ) → has_span dims ≡ false → index_at (outer_dims dims) values (pos 0 ∷ []) ≡ index_at dims values []
own_index dims values none = rw none (indices-at dims values none)

-- the last index as a range has the step 1
last-units : (dims : List Dim) → AllByRecursion HasUnitStep dims → AllByRecursion HasUnitStep (last_as_span dims)
last-units [] units = tt
last-units (Index at ∷ []) units = (refl, tt)
last-units (Span range ∷ []) units = units
last-units (dim ∷ next ∷ dims) units = (units.0, last-units (next ∷ dims) units.1)

either : (test : Bool) (dims others : List Dim) → AllByRecursion HasUnitStep dims → AllByRecursion HasUnitStep others → AllByRecursion HasUnitStep (if test then dims else others)
either true dims others one two = one
either false dims others one two = two

-- outer dimensions have the step 1 where the subset's have
pub outer-units : (dims : List Dim) → AllByRecursion HasUnitStep dims → AllByRecursion HasUnitStep (outer_dims dims)
outer-units dims units = either (has_span dims) dims (last_as_span dims) units (last-units dims units)
