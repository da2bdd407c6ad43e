-- Ranges of step 1 have a value more than there is from their begin to their end.
use Rattle.std.specs.List.{AllByRecursion}
use Rattle.std.proofs.Common.{◌≡◌, ℕ, suc, nat_eq, zero, ◌+◌, ◌/◌, ℤ, pos, ◌-ℤ◌, unsigned_abs, List, [], ◌∷◌, ◌++◌, map, take, drop, length, true, Option, Some, None, slice_index_or, refl, ap, sym, ◌∙◌, subst, arith}
use Rattle.std.proofs.lemmas.Int.{ints, by_lt_z}
use Rattle.sd_range.specs.Terms.{IsNormal}
use Rattle.sd_range.specs.Affine.{affine_value}
use Rattle.sd_range.specs.Arithmetic.{affine_zero}
use Rattle.sd_range.specs.Range.{range_values, count_between, least_value}
use Rattle.sd_range.specs.declared.affine.Affine.{Affine}
use Rattle.sd_range.specs.declared.range.Range.{Range}
use Rattle.sd_range.specs.declared.subset.Dim.{Dim}
use Rattle.sd_range.specs.declared.subset.Dim.TheVariants.{Index, Span}
use Rattle.sd_range.proofs.AffineLaws.{affine_value-difference}
use Rattle.sd_range.proofs.SubsetLaws.{counted-length}
use Rattle.sd_range.proofs.Stepped.{count-empty, count-filled}
use Rattle.sd_work.specs.Change.{without}
use Rattle.sd_graph.specs.Context.{span_counts}
use Rattle.sd_safe.specs.normal.NormalForm.{AreAffinesNormal, IsRangeNormal}
use Rattle.sd_validity.specs.rules.Parts.{spans_of}
use Rattle.sd_validity.specs.rules.Shapes.{is_extent_same, are_extents_same, end_of, range_extent, shape_of}
use Rattle.sd_validity.specs.rules.MovedShapes.{spans_left}
use Rattle.sd_race.specs.cover.Fit.{shape_counts, HasTargetCounts}
use Rattle.sd_safe.proofs.fit_lemmas.Members.{both, same_number}
use Rattle.sd_safe.proofs.fit_lemmas.Extents.{IsNormalExtent, same_difference}

-- a range in normal form with one end and the step 1
pub record IsPlainSpan (r : Range) : Type 0 where
  pub normal : IsRangeNormal r
  pub single : nat_eq (length r.ends) 1 ≡ true
  pub step : r.step ≡ pos 1

-- ---- how many values there are

count-same : (begin last other_begin other_last step : ℤ) → last -ℤ begin ≡ other_last -ℤ other_begin → count_between begin last step ≡ count_between other_begin other_last step
count-same begin last other_begin other_last step is =
    by_lt_z last begin
    (λ over. count-empty begin last step over ∙ sym (count-empty other_begin other_last step (omega (arith, ints, is))))
    (λ within. count-filled begin last step within
    ∙ ap (λ n. unsigned_abs n / unsigned_abs step + 1) is
    ∙ sym (count-filled other_begin other_last step (omega (arith, ints, is))))

pub least_of_one : (values : List ℤ) (ends : List Affine) → nat_eq (length ends) 1 ≡ true → least_value values ends ≡ affine_value values (end_of ends)
least_of_one values [] is = cc
least_of_one values (end ∷ []) is = refl
least_of_one values (end ∷ (other ∷ ends)) is = let same = same_number (length (end ∷ (other ∷ ends))) 1 is in absurd (omega (arith, same))

-- how many values a range has
abbrev pub count_at : List ℤ → Range → ℕ
count_at values r = length (range_values values r)

range-count : (values : List ℤ) (r : Range) → IsPlainSpan r → count_at values r ≡ count_between (affine_value values r.begin) (affine_value values (end_of r.ends)) (pos 1)
range-count values r plain =
    counted-length (count_between (affine_value values r.begin) (least_value values r.ends) r.step) (affine_value values r.begin) r.step
    ∙ ap (λ last. count_between (affine_value values r.begin) last r.step) (least_of_one values r.ends plain.single)
    ∙ ap (λ step. count_between (affine_value values r.begin) (affine_value values (end_of r.ends)) step) plain.step

-- its begin and its end are in normal form
normal-end : (ends : List Affine) → AreAffinesNormal ends → IsNormal (end_of ends).terms
normal-end [] each = tt
normal-end (end ∷ ends) each = each.0

pub normal-extent : (r : Range) → IsRangeNormal r → IsNormalExtent (range_extent r)
normal-extent r normal = record { last = normal-end r.ends normal.1; begin = normal.0 }

-- ranges of the same extent have as many values
counts-equal : (values : List ℤ) (r other : Range) → IsPlainSpan r → IsPlainSpan other → is_extent_same (range_extent r) (range_extent other) ≡ true → count_at values r ≡ count_at values other
counts-equal values r other plain plain' is =
    let begin = affine_value values r.begin in
    let last = affine_value values (end_of r.ends) in
    let begin' = affine_value values other.begin in
    let last' = affine_value values (end_of other.ends) in
    let same = same_difference (range_extent r) (range_extent other) (normal-extent r plain.normal) (normal-extent other plain'.normal) is in
    let far : last -ℤ begin ≡ last' -ℤ begin' =
    sym (affine_value-difference (end_of r.ends) r.begin values) ∙ ap (affine_value values) same ∙ affine_value-difference (end_of other.ends) other.begin values in
    range-count values r plain ∙ count-same begin last begin' last' (pos 1) far ∙ sym (range-count values other plain')

-- ---- shapes

-- one value, as a range
abbrev lone : Range
lone = record { begin = affine_zero; ends = affine_zero ∷ []; step = pos 1 }

-- the ranges of a shape
abbrev filled : List Range → List Range
filled [] = lone ∷ []
filled (r ∷ ranges) = r ∷ ranges

shape-filled : (ranges : List Range) → shape_of ranges ≡ map range_extent (filled ranges)
shape-filled [] = refl
shape-filled (r ∷ ranges) = refl

abbrev pub ArePlainSpans : List Range → Type 0
ArePlainSpans ranges = AllByRecursion IsPlainSpan ranges

plain-filled : (ranges : List Range) → ArePlainSpans ranges → ArePlainSpans (filled ranges)
plain-filled [] each = (record { normal = (tt, (tt, tt)); single = refl; step = refl }, tt)
plain-filled (r ∷ ranges) each = each

counts-filled : (values : List ℤ) (ranges : List Range) → map (count_at values) (filled ranges) ≡ shape_counts (map (count_at values) ranges)
counts-filled values [] = refl
counts-filled values (r ∷ ranges) = refl

-- ranges of the same extents, one after another
counts-all_equal : (values : List ℤ) (ranges others : List Range) → ArePlainSpans ranges → ArePlainSpans others → are_extents_same (map range_extent ranges) (map range_extent others) ≡ true →
    map (count_at values) ranges ≡ map (count_at values) others
counts-all_equal values [] [] plain plain' is = refl
counts-all_equal values [] (other ∷ others) plain plain' is = cc
counts-all_equal values (r ∷ ranges) [] plain plain' is = cc
counts-all_equal values (r ∷ ranges) (other ∷ others) plain plain' is =
    let split = both (is_extent_same (range_extent r) (range_extent other)) (are_extents_same (map range_extent ranges) (map range_extent others)) is in
    let first = counts-equal values r other plain.0 plain'.0 split.0 in
    let rest = counts-all_equal values ranges others plain.1 plain'.1 split.1 in
    λ i. first i ∷ rest i

-- ranges of one shape have as many values each
pub shapes-equal : (values : List ℤ) (ranges others : List Range) → ArePlainSpans ranges → ArePlainSpans others → are_extents_same (shape_of ranges) (shape_of others) ≡ true →
    shape_counts (map (count_at values) ranges) ≡ shape_counts (map (count_at values) others)
shapes-equal values ranges others plain plain' is =
    let same : are_extents_same (map range_extent (filled ranges)) (map range_extent (filled others)) ≡ true =
    subst (λ shape. are_extents_same (map range_extent (filled ranges)) shape ≡ true) (shape-filled others) (subst (λ shape. are_extents_same shape (shape_of others) ≡ true) (shape-filled ranges) is) in
    sym (counts-filled values ranges)
    ∙ counts-all_equal values (filled ranges) (filled others) (plain-filled ranges plain) (plain-filled others plain') same
    ∙ counts-filled values others

-- ---- reductions

pub span_counts-is : (dims : List Dim) (values : List ℤ) → span_counts dims values ≡ map (count_at values) (spans_of dims)
span_counts-is [] values = refl
span_counts-is (Index at ∷ dims) values = span_counts-is dims values
span_counts-is (Span r ∷ dims) values = ap (λ counts. count_at values r ∷ counts) (span_counts-is dims values)

-- without an axis
counts-without : (values : List ℤ) (axis : ℕ) (ranges : List Range) → map (count_at values) (take axis ranges ++ drop (suc axis) ranges) ≡ without axis (map (count_at values) ranges)
counts-without values zero [] = refl
counts-without values (suc axis) [] = refl
counts-without values zero (r ∷ ranges) = refl
counts-without values (suc axis) (r ∷ ranges) = ap (λ counts. count_at values r ∷ counts) (counts-without values axis ranges)

plain-left : (axis : ℕ) (ranges : List Range) → ArePlainSpans ranges → ArePlainSpans (take axis ranges ++ drop (suc axis) ranges)
plain-left zero [] each = tt
plain-left (suc axis) [] each = tt
plain-left zero (r ∷ ranges) each = each.1
plain-left (suc axis) (r ∷ ranges) each = (each.0, plain-left axis ranges each.1)

-- a shape of one value has one in each range
all_one : (counts : List ℕ) → shape_counts counts ≡ 1 ∷ [] → AllByRecursion (λ count. count ≡ 1) counts
all_one [] is = tt
all_one (count ∷ []) is = (ap (λ (all : List ℕ). slice_index_or all 0 0) is, tt)
all_one (count ∷ (other ∷ counts)) is = cc

target-counts : (values : List ℤ) (axis : Option ℕ) (from to : List Range) → ArePlainSpans from → ArePlainSpans to → are_extents_same (shape_of (spans_left axis from)) (shape_of to) ≡ true →
    HasTargetCounts axis (map (count_at values) from) (map (count_at values) to)
target-counts values None from to plain plain' is = all_one (map (count_at values) to) (sym (shapes-equal values [] to tt plain' is))
target-counts values (Some axis) from to plain plain' is =
    sym (shapes-equal values (take axis from ++ drop (suc axis) from) to (plain-left axis from plain) plain' is) ∙ ap shape_counts (counts-without values axis from)

-- the target of a reduction whose shapes are right has the counts that it should
pub has_target_counts : (values : List ℤ) (axis : Option ℕ) (from to : List Dim) → ArePlainSpans (spans_of from) → ArePlainSpans (spans_of to) →
    are_extents_same (shape_of (spans_left axis (spans_of from))) (shape_of (spans_of to)) ≡ true → HasTargetCounts axis (span_counts from values) (span_counts to values)
has_target_counts values axis from to plain plain' is =
    subst (λ counts. HasTargetCounts axis counts (span_counts to values)) (sym (span_counts-is from values))
    (subst (λ counts. HasTargetCounts axis (map (count_at values) (spans_of from)) counts) (sym (span_counts-is to values)) (target-counts values axis (spans_of from) (spans_of to) plain plain' is))
