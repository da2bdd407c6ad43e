-- The ranges of a subset are as the stretches of its text are.
use Rattle.std.proofs.Common.{◌≡◌, ◌∙◌, ℕ, zero, suc, ◌+◌, nat_lt, ℤ, pos, negsuc, List, [], ◌∷◌, ◌++◌, map, take, drop, length, Bool, true, false, if◌then◌else◌, nat_abs, Option, Some, None, option_map, refl, ap, sym, subst, arith}
use Rattle.std.specs.Prelude.{⊤}
use Rattle.std.specs.List.{AllByRecursion}
use Rattle.std.proofs.lemmas.Bool.Decides.{Decides-int_eq}
use Rattle.std.proofs.lemmas.Int.{ints}
use Rattle.std.proofs.lemmas.List.{length-map}
use Rattle.sd_lex.specs.PlainTree.{Dimension, index, span}
use Rattle.sd_range.specs.Arithmetic.{affine_zero}
use Rattle.sd_range.specs.declared.affine.Affine.{Affine}
use Rattle.sd_range.specs.declared.range.Range.{Range}
use Rattle.sd_names.specs.Extents.{or_one}
use Rattle.sd_uses.specs.ShapeMismatch.{left_over}
use Rattle.sd_program.specs.Names.{Named}
use Rattle.sd_task.specs.in_force.Ranges.{affine_or, range_between}
use Rattle.sd_task.specs.in_force.Subsets.{whole, dims_of}
use Rattle.sd_task.specs.in_force.Subsets as made
use Rattle.sd_validity.specs.rules.Parts.{spans_of}
use Rattle.sd_validity.specs.rules.Shapes.{are_extents_same, range_extent, dim_extent, shape_of, are_steps_one}
use Rattle.sd_validity.specs.rules.MovedShapes.{are_steps_same, is_axis, spans_left}
use Rattle.sd_validity.specs.bound_shapes.NormalShapes.{IsNormalRange}
use Rattle.sd_made_valid.specs.read_shapes.Fits.{stretches_of, subset_of}
use Rattle.sd_made_valid.proofs.fits_lemmas.Distances.{IsDistance, dim_distance, range_distance, same_distance}

-- each range goes as far as a stretch, in its steps
abbrev pub AreMatched : List (Affine × ℤ) → List Range → Type 0
AreMatched [] [] = ⊤
AreMatched [] (range ∷ ranges) = ⊥
AreMatched (stretch ∷ stretches) [] = ⊥
AreMatched (stretch ∷ stretches) (range ∷ ranges) = (IsDistance (range_extent range) stretch.0 × (range.step ≡ stretch.1)) × AreMatched stretches ranges

-- ---- subsets

whole_distance : (extent : Affine) → IsDistance (range_extent (range_between affine_zero extent None)) extent
whole_distance extent = record { constant = omega (arith, ints); terms = λ variable. omega (arith, ints) }

whole_matched : (extents : List Affine) → AreMatched (map (λ extent. (extent, pos 1)) extents) (spans_of (whole extents))
whole_matched [] = tt
whole_matched (extent ∷ extents) = ((whole_distance extent, refl), whole_matched extents)

drop_none : (extents : List Affine) → drop 0 extents ≡ extents
drop_none [] = refl
drop_none (extent ∷ extents) = refl

module _ (variables : Named ℕ) where
  dims_matched : (dimensions : List Dimension) (extents : List Affine) → length dimensions ≡ length extents → AllByRecursion IsNormalRange (spans_of (dims_of variables dimensions extents)) →
      AreMatched (stretches_of variables extents dimensions) (spans_of (dims_of variables dimensions extents))
  dims_matched [] extents same normal = tt
  dims_matched (dimension ∷ dimensions) [] same normal = absurd (omega (arith, same))
  dims_matched (index at ∷ dimensions) (extent ∷ extents) same normal =
      subst (λ others. AreMatched (stretches_of variables others dimensions) (spans_of (dims_of variables dimensions extents))) (sym (drop_none extents))
      (dims_matched dimensions extents (omega (arith, same)) normal)
  dims_matched (span begin end step ∷ dimensions) (extent ∷ extents) same normal = (
    (range_distance (affine_or affine_zero variables begin) (affine_or extent variables end) step normal.0.0 normal.0.1.0, refl),
    subst (λ others. AreMatched (stretches_of variables others dimensions) (spans_of (dims_of variables dimensions extents))) (sym (drop_none extents))
        (dims_matched dimensions extents (omega (arith, same)) normal.1),
  )

  -- a subset that is written has a dimension for each extent
  abbrev pub IsFull : List Dimension → List Affine → Type 0
  IsFull [] extents = ⊤
  IsFull (dimension ∷ dimensions) extents = length (dimension ∷ dimensions) ≡ length extents

  pub subset_matched : (dimensions : List Dimension) (extents : List Affine) → IsFull dimensions extents → AllByRecursion IsNormalRange (spans_of (made.subset_of variables dimensions extents)) →
      AreMatched (subset_of variables extents dimensions) (spans_of (made.subset_of variables dimensions extents))
  subset_matched [] extents full normal = whole_matched extents
  subset_matched (dimension ∷ dimensions) extents full normal = dims_matched (dimension ∷ dimensions) extents full normal

-- ---- copies

pub steps_same : (stretches : List (Affine × ℤ)) (ranges others : List Range) → AreMatched stretches ranges → AreMatched stretches others → are_steps_same ranges others ≡ true
steps_same [] [] [] first second = refl
steps_same [] [] (other ∷ others) first second = absurd second
steps_same [] (range ∷ ranges) others first second = absurd first
steps_same (stretch ∷ stretches) [] others first second = absurd first
steps_same (stretch ∷ stretches) (range ∷ ranges) [] first second = absurd second
steps_same (stretch ∷ stretches) (range ∷ ranges) (other ∷ others) first second =
    rw ((Decides-int_eq range.step other.step).1 (first.0.1 ∙ sym second.0.1)) (steps_same stretches ranges others first.1 second.1)

pub extents_same : (stretches : List (Affine × ℤ)) (ranges others : List Range) → AreMatched stretches ranges → AreMatched stretches others → are_extents_same (map range_extent ranges) (map range_extent others) ≡ true
extents_same [] [] [] first second = refl
extents_same [] [] (other ∷ others) first second = absurd second
extents_same [] (range ∷ ranges) others first second = absurd first
extents_same (stretch ∷ stretches) [] others first second = absurd first
extents_same (stretch ∷ stretches) (range ∷ ranges) [] first second = absurd second
extents_same (stretch ∷ stretches) (range ∷ ranges) (other ∷ others) first second =
    rw (same_distance (range_extent range) (range_extent other) stretch.0 first.0.0 second.0.0) (extents_same stretches ranges others first.1 second.1)

-- ---- calls

pub steps_one : (stretches : List (Affine × ℤ)) (ranges : List Range) → AreMatched stretches ranges → AllByRecursion (λ (stretch : Affine × ℤ). stretch.1 ≡ pos 1) stretches → are_steps_one ranges ≡ true
steps_one [] [] matched all = refl
steps_one [] (range ∷ ranges) matched all = absurd matched
steps_one (stretch ∷ stretches) [] matched all = absurd matched
steps_one (stretch ∷ stretches) (range ∷ ranges) matched all =
    rw ((Decides-int_eq range.step (pos 1)).1 (matched.0.1 ∙ all.0)) (steps_one stretches ranges matched.1 all.1)

abbrev pub lengths_of : List (Affine × ℤ) → List Affine
lengths_of stretches = map (λ (stretch : Affine × ℤ). stretch.0) stretches

dims_same : (stretches : List (Affine × ℤ)) (ranges : List Range) → AreMatched stretches ranges → are_extents_same (map dim_extent (lengths_of stretches)) (map range_extent ranges) ≡ true
dims_same [] [] matched = refl
dims_same [] (range ∷ ranges) matched = absurd matched
dims_same (stretch ∷ stretches) [] matched = absurd matched
dims_same (stretch ∷ stretches) (range ∷ ranges) matched =
    rw (same_distance (dim_extent stretch.0) (range_extent range) stretch.0 (dim_distance stretch.0) matched.0.0) (dims_same stretches ranges matched.1)

pub shape_same : (stretches : List (Affine × ℤ)) (ranges : List Range) → AreMatched stretches ranges → are_extents_same (map dim_extent (or_one (lengths_of stretches))) (shape_of ranges) ≡ true
shape_same [] [] matched = refl
shape_same [] (range ∷ ranges) matched = absurd matched
shape_same (stretch ∷ stretches) [] matched = absurd matched
shape_same (stretch ∷ stretches) (range ∷ ranges) matched = dims_same (stretch ∷ stretches) (range ∷ ranges) matched

-- ---- reductions

abbrev whole_range : Affine → Range
whole_range extent = range_between affine_zero extent None

whole_ranges : (extents : List Affine) → spans_of (whole extents) ≡ map whole_range extents
whole_ranges [] = refl
whole_ranges (extent ∷ extents) = ap (λ others. whole_range extent ∷ others) (whole_ranges extents)

whole_steps : (extents : List Affine) → are_steps_one (spans_of (whole extents)) ≡ true
whole_steps [] = refl
whole_steps (extent ∷ extents) = whole_steps extents

itself_same : (extents : List Affine) → are_extents_same (map range_extent (map whole_range extents)) (map range_extent (map whole_range extents)) ≡ true
itself_same [] = refl
itself_same (extent ∷ extents) = rw (same_distance (range_extent (whole_range extent)) (range_extent (whole_range extent)) extent (whole_distance extent) (whole_distance extent)) (itself_same extents)

-- what is left, and the target, which has one extent more only where nothing is left
left_same : (left : List Affine) → are_extents_same (shape_of (map whole_range left)) (shape_of (map whole_range (or_one left))) ≡ true
left_same [] = refl
left_same (extent ∷ left) = itself_same (extent ∷ left)

taken : (count : ℕ) (extents : List Affine) → take count (map whole_range extents) ≡ map whole_range (take count extents)
taken zero [] = refl
taken (suc count) [] = refl
taken zero (extent ∷ extents) = refl
taken (suc count) (extent ∷ extents) = ap (λ rest. whole_range extent ∷ rest) (taken count extents)

dropped : (count : ℕ) (extents : List Affine) → drop count (map whole_range extents) ≡ map whole_range (drop count extents)
dropped zero [] = refl
dropped (suc count) [] = refl
dropped zero (extent ∷ extents) = refl
dropped (suc count) (extent ∷ extents) = dropped count extents

joined : (first second : List Affine) → map whole_range first ++ map whole_range second ≡ map whole_range (first ++ second)
joined [] second = refl
joined (extent ∷ first) second = ap (λ rest. whole_range extent ∷ rest) (joined first second)

-- the axis is one, and the ranges that are left have the shape of the target
abbrev IsReduced : Option ℕ → (from to : List Range) → Type 0
IsReduced axis from to = (is_axis axis from ≡ true) × (are_extents_same (shape_of (spans_left axis from)) (shape_of to) ≡ true)

reduced : (axis : Option ℤ) (from to : List Affine) → option_map or_one (left_over axis from) ≡ Some to → IsReduced (option_map nat_abs axis) (map whole_range from) (map whole_range to)
reduced None from to is = (refl, subst (λ target. are_extents_same (shape_of (map whole_range [])) (shape_of (map whole_range target)) ≡ true) (inside (or_one []) to is) (left_same []))
  where
    inside : (one other : List Affine) → Some one ≡ Some other → one ≡ other
    inside one other e = cc
reduced (Some (negsuc below)) from to is = cc
reduced (Some (pos axis)) from to is = by_test (nat_lt axis (length from)) refl is
  where
    inside : (one other : List Affine) → Some one ≡ Some other → one ≡ other
    inside one other e = cc

    left : List Affine
    left = take axis from ++ drop (axis + 1) from

    behind : suc axis ≡ axis + 1
    behind = omega arith

    left_ranges : spans_left (Some axis) (map whole_range from) ≡ map whole_range left
    left_ranges = ap (λ next. take axis (map whole_range from) ++ drop next (map whole_range from)) behind ∙ (λ i. taken axis from i ++ dropped (axis + 1) from i) ∙ joined (take axis from) (drop (axis + 1) from)

    by_test : (test : Bool) → nat_lt axis (length from) ≡ test → option_map or_one (if test then Some left else None) ≡ Some to → IsReduced (Some axis) (map whole_range from) (map whole_range to)
    by_test true same is = (
      ap (nat_lt axis) (length-map from whole_range) ∙ same,
      ap (λ ranges. are_extents_same (shape_of ranges) (shape_of (map whole_range to))) left_ranges
          ∙ subst (λ target. are_extents_same (shape_of (map whole_range left)) (shape_of (map whole_range target)) ≡ true) (inside (or_one left) to is) (left_same left),
    )
    by_test false same is = absurd (none is)
      where
        none : None ≡ Some to → ⊥
        none e = cc

pub whole_reduced : (axis : Option ℤ) (from to : List Affine) → option_map or_one (left_over axis from) ≡ Some to →
    ((are_steps_one (spans_of (whole from)) ≡ true) × (are_steps_one (spans_of (whole to)) ≡ true)) × IsReduced (option_map nat_abs axis) (spans_of (whole from)) (spans_of (whole to))
whole_reduced axis from to is = (
  (whole_steps from, whole_steps to),
  subst (λ ranges. IsReduced (option_map nat_abs axis) ranges (spans_of (whole to))) (sym (whole_ranges from))
      (subst (IsReduced (option_map nat_abs axis) (map whole_range from)) (sym (whole_ranges to)) (reduced axis from to is)),
)
