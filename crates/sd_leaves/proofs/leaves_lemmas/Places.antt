-- Places of a connector, and those in a reduction's target.
use Rattle.std.proofs.Common.{◌≡◌, ℕ, zero, suc, ◌+◌, ◌-◌, ◌/◌, ℤ, pos, ◌+ℤ◌, ◌-ℤ◌, List, [], ◌∷◌, ◌++◌, length, take, drop, min, unsigned_abs, Some, is_some, false, refl, ap, sym, ◌∙◌, arith, rules}
use Rattle.std.proofs.Math.Seq.{take-nil, drop-nil}
use Rattle.std.proofs.lemmas.Int.{ints}
use Rattle.std.proofs.lemmas.List.{take_all, length-drop}
use Rattle.sd_range.proofs.Stepped.{count-filled}
use Rattle.sd_range.specs.declared.affine.Affine.{Affine}
use Rattle.sd_range.specs.Affine.{affine_value, terms_value}
use Rattle.sd_range.specs.Range.{count_between, counted_from, stepped, least_value, range_values}
use Rattle.sd_range.specs.Points.{Walk, moved}
use Rattle.sd_work.specs.Change.{without}
use Rattle.sd_leaves.proofs.leaves_lemmas.Lists.{first_here, none_here}

-- a list without a member is what stands before it and what stands behind it
without_is : {A : Type 0} (number : ℕ) (members : List A) →
    without number members ≡ take (min number (length members)) members ++ drop (min (number + 1) (length members)) members
without_is number [] = simp (take-nil, drop-nil)
without_is zero (member ∷ members) =
    let before : min 0 (suc (length members)) ≡ 0 = omega arith in
    let behind : min 1 (suc (length members)) ≡ 1 = omega arith in
    rw (before, behind) refl
without_is (suc number) (member ∷ members) =
    let before : min (suc number) (suc (length members)) ≡ suc (min number (length members)) = omega arith in
    let behind : min (suc number + 1) (suc (length members)) ≡ suc (min (number + 1) (length members)) = omega arith in
    rw (before, behind) (ap (λ rest. member ∷ rest) (without_is number members))

-- what is put into a list, which was emptied, by two parts of another one
pub put_without : (at : List ℤ) (axis before behind : ℕ) (emptied first second : List ℤ) → emptied ≡ [] → before ≡ min axis (length at) → behind ≡ min (axis + 1) (length at) →
    first ≡ emptied ++ take before at → second ≡ first ++ take (length at - behind) (drop behind at) → second ≡ without axis at
put_without at axis before behind emptied first second none before_is behind_is first_is second_is =
    let all : take (length at - behind) (drop behind at) ≡ drop behind at = take_all (length at - behind) (drop behind at) (omega (arith, length-drop behind at)) in
    second_is ∙ ap (λ rest. first ++ rest) all
    ∙ ap (λ first. first ++ drop behind at) (first_is ∙ ap (λ none. none ++ take before at) none)
    ∙ ap (λ before. take before at ++ drop behind at) before_is
    ∙ ap (λ behind. take (min axis (length at)) at ++ drop behind at) behind_is
    ∙ sym (without_is axis at)

plus_zero : (value : ℤ) → value +ℤ pos 0 ≡ value
plus_zero value = grind (arith, ints)

-- a number alone has its value
constant_value : (values : List ℤ) (a : Affine) (value : ℤ) → a.constant ≡ value → a.terms ≡ [] → affine_value values a ≡ value
constant_value values a value constant terms =
    ap (λ constant. constant +ℤ terms_value values a.terms) constant ∙ ap (λ terms. value +ℤ terms_value values terms) terms ∙ plus_zero value

count_below : (extent : ℕ) → count_between (pos 0) (pos extent -ℤ pos 1) (pos 1) ≡ extent
count_below zero = refl
count_below (suc count) =
    let last : pos (suc count) -ℤ pos 1 ≡ pos count = grind (arith, ints) in
    let gap : unsigned_abs (pos count -ℤ pos 0) ≡ count = grind (arith, ints) in
    ap (λ last. count_between (pos 0) last (pos 1)) last
    ∙ count-filled (pos 0) (pos count) (pos 1) (search rules)
    ∙ ap (λ gap. gap / unsigned_abs (pos 1) + 1) gap
    ∙ omega arith

-- from 0 to the extent less one there are as many numbers as the extent
numbers_below_are : (extent : ℕ) → stepped (pos 0) (pos extent -ℤ pos 1) (pos 1) ≡ counted_from (pos 0) (pos 1) extent
numbers_below_are extent = ap (counted_from (pos 0) (pos 1)) (count_below extent)

-- a range of numbers alone
pub range_below : (begin last : Affine) (ends : List Affine) (extent : ℕ) → begin.constant ≡ pos 0 → begin.terms ≡ [] → ends ≡ last ∷ [] → last.constant ≡ pos extent -ℤ pos 1 → last.terms ≡ [] →
    range_values [] (record { begin = begin; ends = ends; step = pos 1 }) ≡ counted_from (pos 0) (pos 1) extent
range_below begin last ends extent zero_is no_begin ends_is last_is no_last =
    ap (λ first. stepped first (least_value [] ends) (pos 1)) (constant_value [] begin (pos 0) zero_is no_begin)
    ∙ ap (λ ends. stepped (pos 0) (least_value [] ends) (pos 1)) ends_is
    ∙ ap (λ last. stepped (pos 0) last (pos 1)) (constant_value [] last (pos extent -ℤ pos 1) last_is no_last)
    ∙ numbers_below_are extent

-- ---- going through points

pub walk_on : (walk next : Walk) (at : List ℤ) → next ≡ moved walk → next.current ≡ Some at → walk.left ≡ at ∷ next.left
walk_on walk next at step stands =
    first_here walk.left at (sym (ap (λ walk. walk.current) step) ∙ stands) ∙ ap (λ rest. at ∷ rest) (sym (ap (λ walk. walk.left) step))

pub walk_over : (walk next : Walk) → next ≡ moved walk → false ≡ is_some next.current → walk.left ≡ []
walk_over walk next step over = none_here walk.left (sym (over ∙ ap (λ walk. is_some walk.current) step))
