-- Two lists, one pair of members after another.
use Rattle.std.proofs.Common.{◌≡◌, ◌∙◌, ℕ, zero, suc, ◌+◌, ◌-◌, ◌<◌, Bor, List, [], ◌∷◌, ◌++◌, length, map, take, drop, slice_index_or, Bool, true, false, ◌&&◌, refl, ap, sym, arith, add-one, drop-cons}
use Rattle.std.specs.Ordering.{int_eq}
use Rattle.std.proofs.lemmas.List.{length-drop, length-map, map-append, take_all}
use Rattle.sd_range.specs.declared.range.Range.{Range}
use Rattle.sd_validity.specs.rules.MovedShapes.{are_steps_same}
use Rattle.sd_validity.specs.rules.Shapes as plain
use Rattle.sd_validity.specs.rules.Shapes.{are_extents_same, is_extent_same}
use Rattle.sd_links.specs.ExtentOf.{extent_of}
use Rattle.sd_links.specs.declared.extents.Extent.{Extent}

none_behind : {rest : Bool} (first : Bool) → rest ≡ false → (first && rest) ≡ false
none_behind true is = is
none_behind false is = refl

-- lists of two lengths have not the same extents
extents_differ : (extents others : List plain.Extent) → (length extents ≡ length others → ⊥) → are_extents_same extents others ≡ false
extents_differ [] [] apart = absurd (apart refl)
extents_differ [] (other ∷ others) apart = refl
extents_differ (extent ∷ extents) [] apart = refl
extents_differ (extent ∷ extents) (other ∷ others) apart = none_behind (is_extent_same extent other) (extents_differ extents others (λ same. apart (ap suc same)))

pub extents_apart : (extents others : List Extent) → (length extents ≡ length others → ⊥) → are_extents_same (map extent_of extents) (map extent_of others) ≡ false
extents_apart extents others apart =
    extents_differ (map extent_of extents) (map extent_of others) (rw (length-map extents extent_of, length-map others extent_of) apart)

-- one pair, and the pairs behind it
pub extents_next : (extents others : List Extent) (i : ℕ) (extent other : Extent) → i < length extents → i < length others →
    extent ≡ slice_index_or extents i extent → other ≡ slice_index_or others i other →
    are_extents_same (map extent_of (drop i extents)) (map extent_of (drop i others))
    ≡ (is_extent_same (extent_of extent) (extent_of other) && are_extents_same (map extent_of (drop (i + 1) extents)) (map extent_of (drop (i + 1) others)))
extents_next extents others i extent other below within first second =
    rw (add-one, drop-cons extents i extent below, drop-cons others i other within)
    (λ j. is_extent_same (extent_of (sym first j)) (extent_of (sym second j)) && are_extents_same (map extent_of (drop (suc i) extents)) (map extent_of (drop (suc i) others)))

-- nor the same steps
steps_differ : (ranges others : List Range) → (length ranges ≡ length others → ⊥) → are_steps_same ranges others ≡ false
steps_differ [] [] apart = absurd (apart refl)
steps_differ [] (other ∷ others) apart = refl
steps_differ (range ∷ ranges) [] apart = refl
steps_differ (range ∷ ranges) (other ∷ others) apart = none_behind (int_eq range.step other.step) (steps_differ ranges others (λ same. apart (ap suc same)))

abbrev ranges_of : List (Bor Range) → List Range
ranges_of ranges = map (λ range. range.now) ranges

pub steps_apart : (ranges others : List (Bor Range)) → (length ranges ≡ length others → ⊥) → are_steps_same (map (λ range. range.now) ranges) (map (λ range. range.now) others) ≡ false
steps_apart ranges others apart =
    steps_differ (ranges_of ranges) (ranges_of others) (rw (length-map ranges (λ range. range.now), length-map others (λ range. range.now)) apart)

mapped_take : {A B : Type 0} (f : A → B) (count : ℕ) (all : List A) → map f (take count all) ≡ take count (map f all)
mapped_take f zero all = refl
mapped_take f (suc count) [] = refl
mapped_take {A} {B} f (suc count) (first ∷ rest) = ap (λ (behind : List B). f first ∷ behind) (mapped_take f count rest)

mapped_drop : {A B : Type 0} (f : A → B) (count : ℕ) (all : List A) → map f (drop count all) ≡ drop count (map f all)
mapped_drop f zero all = refl
mapped_drop f (suc count) [] = refl
mapped_drop f (suc count) (first ∷ rest) = mapped_drop f count rest

-- what is behind a place is all that is left
pub all_behind : {A : Type 0} (place : ℕ) (all : List A) → take (length all - place) (drop place all) ≡ drop place all
all_behind place all = take_all (length all - place) (drop place all) (omega (arith, length-drop place all))

-- all but one
pub left_mapped : (spans left : List (Bor Range)) (axis : ℕ) → left ≡ take axis spans ++ drop (axis + 1) spans →
    map (λ range. range.now) left ≡ take axis (map (λ range. range.now) spans) ++ drop (suc axis) (map (λ range. range.now) spans)
left_mapped spans left axis is =
    let now : Bor Range → Range = λ range. range.now in
    ap (map now) is
    ∙ map-append now (take axis spans) (drop (axis + 1) spans)
    ∙ (λ i. mapped_take now axis spans i ++ mapped_drop now (axis + 1) spans i)
    ∙ ap (λ (count : ℕ). take axis (map now spans) ++ drop count (map now spans)) (add-one axis)
