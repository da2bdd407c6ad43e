-- A way through the elements of a subset.
use Rattle.std.specs.Prelude.{ℤ, pos, List, [], ◌∷◌, map}
use Rattle.sd_range.specs.Affine.{IsEvaluable}
use Rattle.sd_range.specs.Range.{IsEvaluableRange}
use Rattle.sd_range.specs.Points.{points}
use Rattle.sd_range.specs.Subset.{elements}
use Rattle.sd_range.specs.declared.range.Range.{Range}
use Rattle.sd_range.specs.declared.subset.Dim.{Dim}
use Rattle.sd_range.specs.declared.subset.Dim.TheVariants.{Index, Span}
use Rattle.sd_range.specs.declared.subset.Subset.{Subset}

-- the range of a dimension: that of an index goes from it to itself
abbrev pub range_of : Dim → Range
range_of (Index at) = record { begin = at; ends = at ∷ []; step = pos 1 }
range_of (Span range) = range

-- the values of a dimension's expressions can be told
abbrev pub IsEvaluableDim : List ℤ → Dim → Type 0
IsEvaluableDim values (Index at) = IsEvaluable values at
IsEvaluableDim values (Span range) = IsEvaluableRange values range

-- a way through elements: the range of each dimension, and the elements that are left
pub record Way : Type 0 where
  pub ranges : List Range
  pub left : List (List ℤ)

-- before the first of all elements of a subset
abbrev pub opening : Subset → List ℤ → Way
opening subset values = record { ranges = map range_of subset.dims; left = elements subset values }

-- before the first of all points of these ranges
abbrev pub way_through : List Range → List ℤ → Way
way_through ranges values = record { ranges = ranges; left = points ranges values }
