-- The elements of a subset are the points of its ranges, each with a number for each range.
use Rattle.std.proofs.Common.{◌≡◌, ℕ, suc, ℤ, List, [], ◌∷◌, ◌++◌, length, map, refl, ap, subst, rules, arith}
use Rattle.std.specs.List.{All, AllByRecursion, flat_map}
use Rattle.std.proofs.lemmas.List.{length-map}
use Rattle.std.proofs.lemmas.List.Elements.{All-map, All-weaker, All-from_recursion}
use Rattle.sd_range.specs.Affine.{IsEvaluable}
use Rattle.sd_range.specs.Range.{IsRange, IsEvaluableRange, range_values}
use Rattle.sd_range.specs.Points.{tuples, points}
use Rattle.sd_range.specs.Subset.{IsDim, dim_values}
use Rattle.sd_range.specs.declared.range.Range.{Range}
use Rattle.sd_range.specs.declared.subset.Dim.{Dim}
use Rattle.sd_range.specs.declared.subset.Dim.TheVariants.{Index, Span}
use Rattle.sd_range.specs.declared.subset.Subset.{Subset}
use Rattle.sd_range.proofs.SubsetLaws.{index-range}
use Rattle.sd_subset.specs.elements.Way.{opening, way_through, range_of, IsEvaluableDim}

-- a dimension has the values of its range
each_dim : (dim : Dim) (values : List ℤ) → dim_values values dim ≡ range_values values (range_of dim)
each_dim (Index at) values = index-range at values
each_dim (Span range) values = refl

-- so has each one
all_dims : (dims : List Dim) (values : List ℤ) → map (dim_values values) dims ≡ map (range_values values) (map range_of dims)
all_dims [] values = refl
all_dims (dim ∷ dims) values = rw (each_dim dim values, all_dims dims values) refl

-- the elements of a subset are the points of its ranges
pub same_way : (subset : Subset) (values : List ℤ) → opening subset values ≡ way_through (map range_of subset.dims) values
same_way subset values =
    ap (λ (lists : List (List ℤ)). record { ranges = map range_of subset.dims; left = tuples lists }) (all_dims subset.dims values)

-- the range of a dimension is one
pub is_range : (dim : Dim) → IsDim dim → IsRange (range_of dim)
is_range (Index at) ok = record { ended = omega arith; few_ends = omega arith; rises = search rules }
is_range (Span range) ok = ok

-- so are those of all
pub are_ranges : (dims : List Dim) → All IsDim dims → All IsRange (map range_of dims)
are_ranges dims ok = All-map IsRange range_of dims (All-weaker IsDim (λ dim. IsRange (range_of dim)) is_range dims ok)

-- the expressions of a dimension are those of its range
pub is_evaluable : (values : List ℤ) (dim : Dim) → IsEvaluableDim values dim → IsEvaluableRange values (range_of dim)
is_evaluable values (Index at) ok = record { begin = ok; ends = All-from_recursion (IsEvaluable values) (at ∷ []) (ok, tt) }
is_evaluable values (Span range) ok = ok

-- so are those of all
pub are_evaluable : (dims : List Dim) (values : List ℤ) → All (IsEvaluableDim values) dims → All (IsEvaluableRange values) (map range_of dims)
are_evaluable dims values ok =
    All-map (IsEvaluableRange values) range_of dims (All-weaker (IsEvaluableDim values) (λ dim. IsEvaluableRange values (range_of dim)) (is_evaluable values) dims ok)

-- each tuple is this long
abbrev pub AreLong : ℕ → List (List ℤ) → Type 0
AreLong count tuples = AllByRecursion (λ tuple. length tuple ≡ count) tuples

-- tuples with a number more before each are longer by one
begun_longer : (count : ℕ) (first : ℤ) (inner rest : List (List ℤ)) → AreLong count inner → AreLong (suc count) rest → AreLong (suc count) (map (λ tuple. first ∷ tuple) inner ++ rest)
begun_longer count first [] rest each others = others
begun_longer count first (tuple ∷ inner) rest each others = (ap suc each.0, begun_longer count first inner rest each.1 others)

all_longer : (count : ℕ) (firsts : List ℤ) (inner : List (List ℤ)) → AreLong count inner → AreLong (suc count) (flat_map (λ first. map (λ tuple. first ∷ tuple) inner) firsts)
all_longer count [] inner each = tt
all_longer count (first ∷ firsts) inner each =
    begun_longer count first inner (flat_map (λ first. map (λ tuple. first ∷ tuple) inner) firsts) each (all_longer count firsts inner each)

-- a tuple has a number of each list
tuples_long : (lists : List (List ℤ)) → AreLong (length lists) (tuples lists)
tuples_long [] = (refl, tt)
tuples_long (firsts ∷ others) = all_longer (length others) firsts (tuples others) (tuples_long others)

-- a point has a number for each range
pub points_long : (ranges : List Range) (values : List ℤ) → AreLong (length ranges) (points ranges values)
points_long ranges values =
    subst (λ (count : ℕ). AreLong count (points ranges values)) (length-map ranges (range_values values)) (tuples_long (map (range_values values) ranges))
