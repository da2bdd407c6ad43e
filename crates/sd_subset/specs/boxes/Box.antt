-- Boxes: for each dimension a lowest and a highest bound, and the replacing of map parameters in them.
use Rattle.std.specs.Prelude.{ℕ, ℤ, pos, ◌≤ℤ◌, List, [], ◌∷◌, map, int_lt, if◌then◌else◌}
use Rattle.std.specs.List.{AllZip}
use Rattle.sd_range.specs.Terms.{coefficient_of}
use Rattle.sd_range.specs.Affine.{affine_value}
use Rattle.sd_range.specs.Arithmetic.{affine_zero, substituted}
use Rattle.sd_range.specs.declared.affine.Affine.{Affine}
use Rattle.sd_range.specs.declared.range.Range.{Range}
use Rattle.sd_range.specs.declared.subset.Dim.{Dim}
use Rattle.sd_range.specs.declared.subset.Dim.TheVariants.{Index, Span}
use Rattle.sd_subset.specs.declared.boxes.bounds.Bounds.{Bounds}

-- the bounds of each dimension; a stream has none
abbrev pub Box : Type 0
Box = List Bounds

-- a parameter of a map: its variable and its range
abbrev pub Parameter : Type 0
Parameter = ℕ × Range

-- the last of these expressions, and this one where there is none
abbrev pub last_of : Affine → List Affine → Affine
last_of before [] = before
last_of before (end ∷ ends) = last_of end ends

abbrev pub last_end : Range → Affine
last_end r = last_of affine_zero r.ends

-- the box of a dimension: an index is both bounds; a range gives its begin and its last end
abbrev pub bounds_of : Dim → Bounds
bounds_of (Index at) = record { low = at; high = at }
bounds_of (Span r) = record { low = r.begin; high = last_end r }

abbrev pub box_of : List Dim → Box
box_of dims = map bounds_of dims

-- a parameter replaced in a lower bound: by its begin where its coefficient is positive, else by its last end
abbrev pub with_least : Parameter → Affine → Affine
with_least parameter a =
    substituted parameter.0 (if int_lt (pos 0) (coefficient_of a.terms parameter.0) then parameter.1.begin else last_end parameter.1) a

-- and in an upper bound, the other way
abbrev pub with_greatest : Parameter → Affine → Affine
with_greatest parameter a =
    substituted parameter.0 (if int_lt (pos 0) (coefficient_of a.terms parameter.0) then last_end parameter.1 else parameter.1.begin) a

-- parameters, the outermost first, replaced in a lower bound, from the innermost outwards
abbrev pub least : List Parameter → Affine → Affine
least [] a = a
least (parameter ∷ parameters) a = with_least parameter (least parameters a)

-- and in an upper bound
abbrev pub greatest : List Parameter → Affine → Affine
greatest [] a = a
greatest (parameter ∷ parameters) a = with_greatest parameter (greatest parameters a)

-- and in both bounds of a dimension
abbrev pub bounds_replaced : List Parameter → Bounds → Bounds
bounds_replaced parameters bounds = record { low = least parameters bounds.low; high = greatest parameters bounds.high }

-- and in a box
abbrev pub replaced : List Parameter → Box → Box
replaced parameters box = map (bounds_replaced parameters) box

-- a number is between the bounds, where the variables have these values
pub record IsBetween (values : List ℤ) (bounds : Bounds) (number : ℤ) : Type 0 where
  pub low : affine_value values bounds.low ≤ℤ number
  pub high : number ≤ℤ affine_value values bounds.high

-- an index is in a box: each of its numbers is between the bounds of its dimension
abbrev pub IsInBox : List ℤ → Box → List ℤ → Type 0
IsInBox values box index = AllZip (IsBetween values) box index
