-- The points of ranges as they are kept: an axis for each range, and a number on each.
use Rattle.std.specs.Prelude.{ℤ, pos, ◌+ℤ◌, ◌<ℤ◌, ◌≤ℤ◌, List, [], ◌∷◌, ◌++◌, map}
use Rattle.std.specs.List.{flat_map}
use Rattle.sd_range.specs.Affine.{affine_value}
use Rattle.sd_range.specs.Range.{least_value, stepped}
use Rattle.sd_range.specs.Points.{tuples}
use Rattle.sd_range.specs.declared.range.Range.{Range}
use Rattle.sd_range.specs.declared.axis.Axis.{Axis}

-- the axis of a range, where the variables have these values
abbrev pub axis_of : List ℤ → Range → Axis
axis_of values r = record { first = affine_value values r.begin; last = least_value values r.ends; step = r.step }

abbrev pub first_of : Axis → ℤ
first_of axis = axis.first

-- the numbers of an axis
abbrev pub axis_values : Axis → List ℤ
axis_values axis = stepped axis.first axis.last axis.step

-- the numbers of an axis that come after this one
abbrev pub later_values : Axis → ℤ → List ℤ
later_values axis number = stepped (number +ℤ axis.step) axis.last axis.step

-- the numbers of an axis rise
abbrev pub Rises : Axis → Type 0
Rises axis = pos 0 <ℤ axis.step

-- an axis has a number
abbrev pub IsFilled : Axis → Type 0
IsFilled axis = axis.first ≤ℤ axis.last

-- the points after this one: those with its first number, then those with a later one
abbrev pub after : List Axis → List ℤ → List (List ℤ)
after [] at = []
after (axis ∷ axes) [] = []
after (axis ∷ axes) (number ∷ at) =
    map (λ rest. number ∷ rest) (after axes at)
    ++ flat_map (λ later. map (λ rest. later ∷ rest) (tuples (map axis_values axes))) (later_values axis number)
