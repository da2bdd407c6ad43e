-- The hull of several boxes of one container.
use Rattle.std.specs.Prelude.{ℕ, ℤ, pos, ◌-ℤ◌, int_lt, List, [], ◌∷◌, map, Bool, true, false, ◌&&◌, if◌then◌else◌}
use Rattle.std.specs.List.{fold, flat_map, list_all}
use Rattle.sd_range.specs.Arithmetic.{affine_zero, affine_difference}
use Rattle.sd_range.specs.declared.affine.Affine.{Affine}
use Rattle.sd_subset.specs.declared.boxes.bounds.Bounds.{Bounds}
use Rattle.sd_subset.specs.boxes.Box.{Box}

abbrev pub constant_affine : ℤ → Affine
constant_affine number = record { constant = number; terms = [] }

-- an expression has no term
abbrev pub has_no_terms : List (ℕ × ℤ) → Bool
has_no_terms [] = true
has_no_terms (term ∷ terms) = false

-- the difference of two expressions is a constant
abbrev pub differs_by_constant : Affine → Affine → Bool
differs_by_constant first other = has_no_terms (affine_difference other first).terms

-- both bounds differ from the first ones by constants
abbrev pub is_level : Bounds → Bounds → Bool
is_level first other = differs_by_constant first.low other.low && differs_by_constant first.high other.high

-- the lesser of two lower bounds, and the greater of two upper ones, that differ by constants
abbrev pub wider : Bounds → Bounds → Bounds
wider bounds other = record {
  low = if int_lt other.low.constant bounds.low.constant then other.low else bounds.low;
  high = if int_lt bounds.high.constant other.high.constant then other.high else bounds.high;
}

-- all of a dimension of this extent
abbrev pub whole_bounds : (extent : ℕ) → Bounds
whole_bounds extent = record { low = affine_zero; high = constant_affine (pos extent -ℤ pos 1) }

-- the hull of bounds of one dimension: the widest, where they can be compared, and else all of the dimension
abbrev pub hull_bounds : (extent : ℕ) → List Bounds → Bounds
hull_bounds extent [] = whole_bounds extent
hull_bounds extent (first ∷ others) = if list_all (is_level first) others then fold wider first others else whole_bounds extent

-- the bounds of a box's first dimension, if it has one
abbrev pub first_of : Box → List Bounds
first_of [] = []
first_of (bounds ∷ box) = bounds ∷ []

abbrev pub rest_of : Box → Box
rest_of [] = []
rest_of (bounds ∷ box) = box

-- the hull of boxes of one container of these extents
abbrev pub hull : (extents : List ℕ) → List Box → Box
hull [] boxes = []
hull (extent ∷ extents) boxes = hull_bounds extent (flat_map first_of boxes) ∷ hull extents (map rest_of boxes)
