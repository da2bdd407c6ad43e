-- Indices of links lie in the links' boxes.
use Rattle.std.specs.List.{AllByRecursion, AllZip, Contains}
use Rattle.std.proofs.Common.{◌≡◌, inl, inr, zero, suc, ℕ, ◌<◌, ℤ, pos, negsuc, ◌+ℤ◌, ◌*ℤ◌, ◌≤ℤ◌, List, [], ◌∷◌, length, get_or, map, refl, ap, sym, ◌∙◌, subst, arith}
use Rattle.std.proofs.lemmas.Int.{ints}
use Rattle.std.proofs.Math.IntN.{*ℤ_comm}
use Rattle.sd_range.specs.Terms.{IsNormal}
use Rattle.sd_range.specs.Affine.{affine_value, terms_value}
use Rattle.sd_range.specs.Arithmetic.{affine_difference}
use Rattle.sd_range.specs.Range.{IsRange, range_values, counted_from, count_between, least_value}
use Rattle.sd_range.specs.Points.{tuples}
use Rattle.sd_range.specs.Subset.{dim_values}
use Rattle.sd_range.specs.declared.range.Range.{Range}
use Rattle.sd_range.specs.declared.affine.Affine.{Affine}
use Rattle.sd_range.specs.declared.subset.Dim.{Dim}
use Rattle.sd_range.specs.declared.subset.Dim.TheVariants.{Index, Span}
use Rattle.sd_range.proofs.TupleLaws.{one_of_each}
use Rattle.sd_range.proofs.Members.{AllZip-from_map, Contains-cases, Contains-nil}
use Rattle.sd_range.proofs.SubsetLaws.{IsWithin, counted-length}
use Rattle.sd_range.proofs.AffineLaws.{affine_value-difference}
use Rattle.sd_subset.specs.boxes.Box.{bounds_of, box_of, last_of, last_end, IsBetween, IsInBox}
use Rattle.sd_subset.specs.boxes.InForce.{AreNormalBounds, IsNormalBox}
use Rattle.sd_subset.proofs.boxes_lemmas.Bounding.{value-between}
use Rattle.sd_graph.specs.Context.{span_counts, index_at}
use Rattle.sd_race.specs.cover.Fit.{IsNormalDim, HasLength, HasShape}

-- one step more
more : (k : ℕ) (begin step : ℤ) → (begin +ℤ step) +ℤ (pos k *ℤ step) ≡ begin +ℤ (pos (suc k) *ℤ step)
more k begin (pos step) = omega (arith, ints)
more k begin (negsuc step) = omega (arith, ints)

-- number k of numbers a step apart
counted-at : (count k : ℕ) (begin step default : ℤ) → k < count → get_or (counted_from begin step count) k default ≡ begin +ℤ (pos k *ℤ step)
counted-at zero k begin step default below = absurd (omega arith)
counted-at (suc count) zero begin (pos step) default below = omega (arith, ints)
counted-at (suc count) zero begin (negsuc step) default below = omega (arith, ints)
counted-at (suc count) (suc k) begin step default below =
    counted-at count k (begin +ℤ step) step default (omega arith) ∙ more k begin step

-- the value of this number of a range is between its begin and its last end
nth-between : (r : Range) (values : List ℤ) (k : ℕ) → IsRange r → k < length (range_values values r) →
    (affine_value values r.begin ≤ℤ (affine_value values r.begin +ℤ (pos k *ℤ r.step))) × ((affine_value values r.begin +ℤ (pos k *ℤ r.step)) ≤ℤ affine_value values (last_end r))
nth-between r values k ok below =
    let begin = affine_value values r.begin in
    let count = count_between begin (least_value values r.ends) r.step in
    let number = begin +ℤ (pos k *ℤ r.step) in
    value-between r values number ok
    (k, below, counted-at count k begin r.step number (subst (λ n. k < n) (counted-length count begin r.step) below))

-- the same with the step first
nth-between' : (r : Range) (values : List ℤ) (k : ℕ) → IsRange r → k < length (range_values values r) →
    (affine_value values r.begin ≤ℤ (affine_value values r.begin +ℤ (r.step *ℤ pos k))) × ((affine_value values r.begin +ℤ (r.step *ℤ pos k)) ≤ℤ affine_value values (last_end r))
nth-between' r values k ok below =
    subst (λ n. (affine_value values r.begin ≤ℤ (affine_value values r.begin +ℤ n)) × ((affine_value values r.begin +ℤ n) ≤ℤ affine_value values (last_end r))) (*ℤ_comm (pos k) r.step) (nth-between r values k ok below)

-- a number within an extent is a natural number below it
natural_of : (extent : ℕ) (number : ℤ) → IsWithin extent number → (k : ℕ) × (number ≡ pos k) × (k < extent)
natural_of extent (pos k) within = (k, refl, omega (arith, ints, within.1))
natural_of extent (negsuc k) within = absurd (omega (arith, ints, within.0))

-- the index at a place of a connector lies in its link's box
pub index_at-in_box : (dims : List Dim) (values place : List ℤ) → AllByRecursion IsNormalDim dims → AllZip IsWithin (span_counts dims values) place → IsInBox values (box_of dims) (index_at dims values place)
index_at-in_box [] values place normal within = tt
index_at-in_box (Index at ∷ dims) values place normal within =
    (record { low = omega (arith, ints); high = omega (arith, ints) }, index_at-in_box dims values place normal.1 within)
index_at-in_box (Span r ∷ dims) values [] normal within = absurd within
index_at-in_box (Span r ∷ dims) values (number ∷ place) normal within =
    let (k, is, below) = natural_of (length (range_values values r)) number within.0 in
    let between = nth-between' r values k normal.0.range below in (
      record {
        low = subst (λ n. affine_value values r.begin ≤ℤ (affine_value values r.begin +ℤ (r.step *ℤ n))) (sym is) between.0;
        high = subst (λ n. (affine_value values r.begin +ℤ (r.step *ℤ n)) ≤ℤ affine_value values (last_end r)) (sym is) between.1;
      },
      index_at-in_box dims values place normal.1 within.1,
    )

-- no step
none_more : (begin step : ℤ) → begin +ℤ (pos 0 *ℤ step) ≡ begin
none_more begin (pos step) = omega (arith, ints)
none_more begin (negsuc step) = omega (arith, ints)

-- where each range has one value, the begin of each lies in the box
pub begins-in_box : (dims : List Dim) (values : List ℤ) → AllByRecursion IsNormalDim dims → AllByRecursion (λ count. count ≡ 1) (span_counts dims values) → IsInBox values (box_of dims) (index_at dims values [])
begins-in_box [] values normal one = tt
begins-in_box (Index at ∷ dims) values normal one = (record { low = omega (arith, ints); high = omega (arith, ints) }, begins-in_box dims values normal.1 one)
begins-in_box (Span r ∷ dims) values normal one =
    let between = nth-between r values 0 normal.0.range (omega (arith, one.0)) in
    let same = none_more (affine_value values r.begin) r.step in (
      record { low = omega (arith, ints); high = subst (λ n. n ≤ℤ affine_value values (last_end r)) same between.1 },
      begins-in_box dims values normal.1 one.1,
    )

-- an index of one dimension is between its bounds
dim-between : (dim : Dim) (values : List ℤ) (number : ℤ) → IsNormalDim dim → Contains (dim_values values dim) number → IsBetween values (bounds_of dim) number
dim-between (Index at) values number normal member = elim (Contains-cases (affine_value values at) [] number member) [
  | inl is ↦ record { low = omega (arith, ints, is); high = omega (arith, ints, is) }
  | inr none ↦ absurd (Contains-nil number none)
]
dim-between (Span r) values number normal member =
    let between = value-between r values number normal.range member in record { low = between.0; high = between.1 }

dims-between : (dims : List Dim) (values index : List ℤ) → AllByRecursion IsNormalDim dims → AllZip (λ dim number. Contains (dim_values values dim) number) dims index → IsInBox values (box_of dims) index
dims-between [] values [] normal each = tt
dims-between [] values (number ∷ index) normal each = absurd each
dims-between (dim ∷ dims) values [] normal each = absurd each
dims-between (dim ∷ dims) values (number ∷ index) normal each = (dim-between dim values number normal.0 each.0, dims-between dims values index normal.1 each.1)

-- an element of a link lies in its box
pub elements-in_box : (dims : List Dim) (values index : List ℤ) → AllByRecursion IsNormalDim dims → Contains (tuples (map (dim_values values) dims)) index → IsInBox values (box_of dims) index
elements-in_box dims values index normal member =
    dims-between dims values index normal (AllZip-from_map Contains (dim_values values) dims index (one_of_each (map (dim_values values) dims) index member))

-- the last of normal forms
normal-last_of : (before : Affine) (ends : List Affine) → IsNormal before.terms → AllByRecursion (λ end. IsNormal end.terms) ends → IsNormal (last_of before ends).terms
normal-last_of before [] normal each = normal
normal-last_of before (end ∷ ends) normal each = normal-last_of end ends each.0 each.1

normal-bounds_of : (dim : Dim) → IsNormalDim dim → AreNormalBounds (bounds_of dim)
normal-bounds_of (Index at) normal = record { low = normal; high = normal }
normal-bounds_of (Span r) normal = record { low = normal.begin; high = normal-last_of _ r.ends tt normal.ends }

-- the box of a link in normal form is in normal form
pub normal-box_of : (dims : List Dim) → AllByRecursion IsNormalDim dims → IsNormalBox (box_of dims)
normal-box_of [] normal = tt
normal-box_of (dim ∷ dims) normal = (normal-bounds_of dim normal.0, normal-box_of dims normal.1)

-- a range of this length has its last value so far from its begin
last-value : (extent : ℕ) (r : Range) (values : List ℤ) → HasLength extent r → affine_value values (last_end r) +ℤ pos 1 ≡ affine_value values r.begin +ℤ pos extent
last-value extent r values long =
    let constant : affine_value values (affine_difference (last_end r) r.begin) ≡ (affine_difference (last_end r) r.begin).constant =
    ap (λ terms. (affine_difference (last_end r) r.begin).constant +ℤ terms_value values terms) long.constant ∙ omega (arith, ints) in
    omega (arith, ints, long.long, constant, affine_value-difference (last_end r) r.begin values)

-- one step is one
pub by_one : (begin number step : ℤ) → step ≡ pos 1 → begin +ℤ (step *ℤ number) ≡ begin +ℤ number
by_one begin number step is = rw is (omega (arith, ints))

-- the composed index of a view lies in the link's box
pub view-in_box : (extents : List ℕ) (dims : List Dim) (values index : List ℤ) → HasShape extents dims → AllZip IsWithin extents index → IsInBox values (box_of dims) (index_at dims values index)
view-in_box [] [] values index shape within = tt
view-in_box (extent ∷ extents) [] values index shape within = tt
view-in_box [] (Index at ∷ dims) values index shape within = (record { low = omega (arith, ints); high = omega (arith, ints) }, view-in_box [] dims values index shape within)
view-in_box (extent ∷ extents) (Index at ∷ dims) values index shape within = (record { low = omega (arith, ints); high = omega (arith, ints) }, view-in_box (extent ∷ extents) dims values index shape within)
view-in_box [] (Span r ∷ dims) values index shape within = absurd shape
view-in_box (extent ∷ extents) (Span r ∷ dims) values [] shape within = absurd within
view-in_box (extent ∷ extents) (Span r ∷ dims) values (number ∷ index) shape within =
    let begin = affine_value values r.begin in
    let step = by_one begin number r.step shape.0.step in
    let last = last-value extent r values shape.0 in (
      record { low = omega (arith, ints, step, within.0.0); high = omega (arith, ints, step, last, within.0.1) },
      view-in_box extents dims values index shape.1 within.1,
    )
