-- The hull of boxes has the indices of each, and lies inside their container.
use Rattle.std.proofs.Common.{◌≡◌, ℕ, suc, ℤ, neg_ℤ, List, [], ◌∷◌, map, length, Option, Some, None, option_map, if◌then◌else◌, nat_eq, Bool, true, false, inl, inr, refl, sym, ◌∙◌, ap, subst, arith}
use Rattle.std.specs.List.{AllByRecursion, AllZip, Contains, filter, fold}
use Rattle.std.proofs.lemmas.Int.{ints}
use Rattle.std.proofs.lemmas.Bool.{eqb-true, and_parts}
use Rattle.sd_range.specs.Subset.{inside}
use Rattle.sd_range.proofs.Members.{Contains-nil, Contains-cases}
use Rattle.sd_range.proofs.SubsetLaws.{IsWithin, inside-from_each, inside-each}
use Rattle.sd_windows.specs.Windows.{moved}
use Rattle.sd_race.proofs.cover_lemmas.Among.{among-filter, among-filtered}
use Rattle.sd_race.proofs.race_lemmas.Members.{all-of_each}
use Rattle.sd_cut.specs.declared.window.Window.{Window}
use Rattle.sd_part.specs.declared.boxes.interval.Interval.{Interval}
use Rattle.sd_part.specs.Boxes.{NumberBox, IsIn, IsInIntervals}
use Rattle.sd_part.specs.Hulls.{has_index, has_index_of, joined, joined_each, with_box, hull_of, window_over, has_elements, window_for, AreOfLength}
use Rattle.sd_part.proofs.Intervals.{IsWithinExtent}

-- ---- two boxes

in-one : (one other : Interval) (n : ℤ) → IsIn one n → IsIn (joined one other) n
in-one one other n h = let low = h.low in let high = h.high in record { low = omega (arith, ints); high = omega (arith, ints) }

in-other : (one other : Interval) (n : ℤ) → IsIn other n → IsIn (joined one other) n
in-other one other n h = let low = h.low in let high = h.high in record { low = omega (arith, ints); high = omega (arith, ints) }

in-ones : (ones others : List Interval) (index : List ℤ) → length ones ≡ length others → IsInIntervals ones index → IsInIntervals (joined_each ones others) index
in-ones [] others [] same h = tt
in-ones [] others (n ∷ index) same h = h
in-ones (one ∷ ones) [] index same h = cc
in-ones (one ∷ ones) (other ∷ others) [] same h = h
in-ones (one ∷ ones) (other ∷ others) (n ∷ index) same h = (in-one one other n h.0, in-ones ones others index (omega (arith, same)) h.1)

in-others : (ones others : List Interval) (index : List ℤ) → length ones ≡ length others → IsInIntervals others index → IsInIntervals (joined_each ones others) index
in-others [] [] [] same h = tt
in-others [] [] (n ∷ index) same h = h
in-others [] (other ∷ others) index same h = cc
in-others (one ∷ ones) [] index same h = cc
in-others (one ∷ ones) (other ∷ others) [] same h = h
in-others (one ∷ ones) (other ∷ others) (n ∷ index) same h = (in-other one other n h.0, in-others ones others index (omega (arith, same)) h.1)

joined-length : (ones others : List Interval) → length ones ≡ length others → length (joined_each ones others) ≡ length ones
joined-length [] others same = refl
joined-length (one ∷ ones) [] same = cc
joined-length (one ∷ ones) (other ∷ others) same = ap suc (joined-length ones others (omega (arith, same)))

joined-within : (ones others : List Interval) (extents : List ℕ) → AllZip IsWithinExtent ones extents → AllZip IsWithinExtent others extents → AllZip IsWithinExtent (joined_each ones others) extents
joined-within [] others [] h k = tt
joined-within [] others (extent ∷ extents) h k = absurd h
joined-within (one ∷ ones) [] [] h k = absurd h
joined-within (one ∷ ones) [] (extent ∷ extents) h k = absurd k
joined-within (one ∷ ones) (other ∷ others) [] h k = absurd h
joined-within (one ∷ ones) (other ∷ others) (extent ∷ extents) h k =
    let a = h.0 in let b = k.0 in (omega arith, joined-within ones others extents h.1 k.1)

-- ---- all boxes

-- boxes of one shape
abbrev HaveLength : ℕ → List NumberBox → Type 0
HaveLength count boxes = AllByRecursion (λ (box : NumberBox). length box.intervals ≡ count) boxes

-- a hull of this many dimensions that has an index
abbrev pub Covers : (count : ℕ) → Option (List Interval) → List ℤ → Type 0
Covers count None index = ⊥
Covers count (Some hull) index = (length hull ≡ count) × IsInIntervals hull index

-- a hull, if there is one, has so many dimensions
abbrev pub IfLength : ℕ → Option (List Interval) → Type 0
IfLength count None = Unit {0}
IfLength count (Some hull) = length hull ≡ count

length-with : (count : ℕ) (hull : Option (List Interval)) (box : NumberBox) → IfLength count hull → length box.intervals ≡ count → IfLength count (with_box hull box)
length-with count None box h same = same
length-with count (Some hull) box h same = joined-length hull box.intervals (h ∙ sym same) ∙ h

still-covered : (count : ℕ) (hull : Option (List Interval)) (box : NumberBox) (index : List ℤ) → Covers count hull index → length box.intervals ≡ count → Covers count (with_box hull box) index
still-covered count None box index h same = absurd h
still-covered count (Some hull) box index h same = (joined-length hull box.intervals (h.0 ∙ sym same) ∙ h.0, in-ones hull box.intervals index (h.0 ∙ sym same) h.1)

now-covered : (count : ℕ) (hull : Option (List Interval)) (box : NumberBox) (index : List ℤ) → IfLength count hull → length box.intervals ≡ count → IsInIntervals box.intervals index → Covers count (with_box hull box) index
now-covered count None box index h same is = (same, is)
now-covered count (Some hull) box index h same is = (joined-length hull box.intervals (h ∙ sym same) ∙ h, in-others hull box.intervals index (h ∙ sym same) is)

all-covered : (count : ℕ) (hull : Option (List Interval)) (boxes : List NumberBox) (index : List ℤ) → Covers count hull index → HaveLength count boxes → Covers count (fold with_box hull boxes) index
all-covered count hull [] index h same = h
all-covered count hull (box ∷ boxes) index h same = all-covered count (with_box hull box) boxes index (still-covered count hull box index h same.0) same.1

one-covered : (count : ℕ) (hull : Option (List Interval)) (boxes : List NumberBox) (box : NumberBox) (index : List ℤ) → IfLength count hull → HaveLength count boxes → Contains boxes box → IsInIntervals box.intervals index →
    Covers count (fold with_box hull boxes) index
one-covered count hull [] box index h same member is = absurd (Contains-nil box member)
one-covered count hull (first ∷ boxes) box index h same member is = elim (Contains-cases first boxes box member) [
  | inl here ↦ all-covered count (with_box hull first) boxes index (now-covered count hull first index h same.0 (subst (λ (b : NumberBox). IsInIntervals b.intervals index) (sym here) is)) same.1
  | inr later ↦ one-covered count (with_box hull first) boxes box index (length-with count hull first h same.0) same.1 later is
]

-- what is of a container
of-container : (container : ℕ) (box : NumberBox) → has_index_of container box ≡ true → box.container ≡ container
of-container container box is = eqb-true box.container container (and_parts (nat_eq box.container container) (has_index box.intervals) is).0

have-length : (count container : ℕ) (boxes : List NumberBox) → AreOfLength count container boxes → HaveLength count (filter (has_index_of container) boxes)
have-length count container boxes same = all-of_each (λ (box : NumberBox). length box.intervals ≡ count) (filter (has_index_of container) boxes)
    (λ box member. let is = among-filtered (has_index_of container) boxes box member in same box is.0 (of-container container box is.1))

-- the hull has the indices of each box that has an index
pub hull-covers : (count container : ℕ) (boxes : List NumberBox) (box : NumberBox) (index : List ℤ) → AreOfLength count container boxes → Contains boxes box → has_index_of container box ≡ true →
    IsInIntervals box.intervals index → Covers count (hull_of container boxes) index
hull-covers count container boxes box index same member of is =
    one-covered count None (filter (has_index_of container) boxes) box index tt (have-length count container boxes same) (among-filter (has_index_of container) boxes box member of) is

all-length : (count : ℕ) (hull : Option (List Interval)) (boxes : List NumberBox) → IfLength count hull → HaveLength count boxes → IfLength count (fold with_box hull boxes)
all-length count hull [] h same = h
all-length count hull (box ∷ boxes) h same = all-length count (with_box hull box) boxes (length-with count hull box h same.0) same.1

-- it has as many dimensions
pub hull-length : (count container : ℕ) (boxes : List NumberBox) → AreOfLength count container boxes → IfLength count (hull_of container boxes)
hull-length count container boxes same = all-length count None (filter (has_index_of container) boxes) tt (have-length count container boxes same)

-- ---- within the container

-- a hull, if there is one, lies within extents
abbrev pub IfWithin : List ℕ → Option (List Interval) → Type 0
IfWithin extents None = Unit {0}
IfWithin extents (Some hull) = AllZip IsWithinExtent hull extents

within-with : (extents : List ℕ) (hull : Option (List Interval)) (box : NumberBox) → IfWithin extents hull → AllZip IsWithinExtent box.intervals extents → IfWithin extents (with_box hull box)
within-with extents None box h within = within
within-with extents (Some hull) box h within = joined-within hull box.intervals extents h within

all-within : (extents : List ℕ) (hull : Option (List Interval)) (boxes : List NumberBox) → IfWithin extents hull → AllByRecursion (λ (box : NumberBox). AllZip IsWithinExtent box.intervals extents) boxes →
    IfWithin extents (fold with_box hull boxes)
all-within extents hull [] h within = h
all-within extents hull (box ∷ boxes) h within = all-within extents (with_box hull box) boxes (within-with extents hull box h within.0) within.1

-- the hull lies within where each box does
pub hull-within : (extents : List ℕ) (container : ℕ) (boxes : List NumberBox) → ((box : NumberBox) → Contains boxes box → box.container ≡ container → AllZip IsWithinExtent box.intervals extents) → IfWithin extents (hull_of container boxes)
hull-within extents container boxes each = all-within extents None (filter (has_index_of container) boxes) tt
    (all-of_each (λ (box : NumberBox). AllZip IsWithinExtent box.intervals extents) (filter (has_index_of container) boxes)
    (λ box member. let is = among-filtered (has_index_of container) boxes box member in each box is.0 (of-container container box is.1)))

-- ---- the window of a hull

-- an index of the hull is inside its window
pub in-window : (hull : List Interval) (index : List ℤ) → IsInIntervals hull index → inside (window_over hull).extents (moved (window_over hull).shift index) ≡ true
in-window hull index is = inside-from_each (window_over hull).extents (moved (window_over hull).shift index) (each hull index is)
  where
    each : (hull : List Interval) (index : List ℤ) → IsInIntervals hull index → AllZip IsWithin (window_over hull).extents (moved (window_over hull).shift index)
    each [] [] is = tt
    each [] (n ∷ index) is = absurd is
    each (one ∷ hull) [] is = absurd is
    each (one ∷ hull) (n ∷ index) is = (let low = is.0.low in let high = is.0.high in (omega (arith, ints), omega (arith, ints)), each hull index is.1)

-- an element of the window of a hull within extents is inside these
pub window-inside : (hull : List Interval) (extents : List ℕ) (index : List ℤ) → AllZip IsWithinExtent hull extents → inside (window_over hull).extents index ≡ true →
    inside extents (moved (map neg_ℤ (window_over hull).shift) index) ≡ true
window-inside hull extents index within is = inside-from_each extents (moved (map neg_ℤ (window_over hull).shift) index) (each hull extents index within (inside-each (window_over hull).extents index is))
  where
    each : (hull : List Interval) (extents : List ℕ) (index : List ℤ) → AllZip IsWithinExtent hull extents → AllZip IsWithin (window_over hull).extents index → AllZip IsWithin extents (moved (map neg_ℤ (window_over hull).shift) index)
    each [] [] [] within is = tt
    each [] [] (n ∷ index) within is = absurd is
    each [] (extent ∷ extents) index within is = absurd within
    each (one ∷ hull) [] index within is = absurd within
    each (one ∷ hull) (extent ∷ extents) [] within is = absurd is
    each (one ∷ hull) (extent ∷ extents) (n ∷ index) within is =
        let fits = within.0 in let low = is.0.0 in let high = is.0.1 in ((omega (arith, ints), omega (arith, ints)), each hull extents index within.1 is.1)

-- it has as many dimensions
pub shifts-length : (hull : List Interval) → length (window_over hull).shift ≡ length hull
shifts-length [] = refl
shifts-length (one ∷ hull) = ap suc (shifts-length hull)

pub counts-length : (hull : List Interval) → length (window_over hull).extents ≡ length hull
counts-length [] = refl
counts-length (one ∷ hull) = ap suc (counts-length hull)

-- so has the window of a container
pub window-length : (count container : ℕ) (boxes : List NumberBox) (w : Window) → AreOfLength count container boxes → window_for boxes container ≡ Some w → (length w.shift ≡ count) × (length w.extents ≡ count)
window-length count container boxes w same is = on (has_elements boxes container) (hull_of container boxes) (hull-length count container boxes same) is
  where
    on : (b : Bool) (hull : Option (List Interval)) → IfLength count hull → (if b then option_map window_over hull else None) ≡ Some w → (length w.shift ≡ count) × (length w.extents ≡ count)
    on false hull long e = cc
    on true None long e = cc
    on true (Some hull) long e =
        let is : window_over hull ≡ w = cc in
        (ap (λ (v : Window). length v.shift) (sym is) ∙ shifts-length hull ∙ long, ap (λ (v : Window). length v.extents) (sym is) ∙ counts-length hull ∙ long)
