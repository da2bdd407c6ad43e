-- What boxes in numbers have: the indices inside their container that are between the bounds.
use Rattle.std.proofs.Common.{◌≡◌, ◌↔◌, ℕ, suc, ◌+◌, ◌≤◌, ℤ, pos, ◌-ℤ◌, ◌≤ℤ◌, unsigned_abs, int_lt, List, [], ◌∷◌, length, Bool, true, false, if◌then◌else◌, refl, ap, arith}
use Rattle.std.specs.Int.{int_max, int_min}
use Rattle.std.specs.List.{AllZip}
use Rattle.std.proofs.lemmas.Int.{ints, clamps}
use Rattle.sd_range.specs.Affine.{affine_value}
use Rattle.sd_range.specs.Subset.{inside}
use Rattle.sd_range.proofs.SubsetLaws.{IsWithin, inside-each, inside-from_each}
use Rattle.sd_subset.specs.boxes.Box.{Box, IsInBox}
use Rattle.sd_part.specs.declared.boxes.interval.Interval.{Interval}
use Rattle.sd_part.specs.Boxes.{no_indices, indices_between, cut_between, intervals_at, IsIn, IsInIntervals}

-- a number from the first to the last is among the indices between them, where the first one is not below 0
in-between : (first last n : ℤ) → pos 0 ≤ℤ first → first ≤ℤ n → n ≤ℤ last → IsIn (indices_between first last) n
in-between first last n above low high = on (int_lt last first) refl
  where
    on : (b : Bool) → int_lt last first ≡ b → IsIn (if b then no_indices else record { low = unsigned_abs first; count = unsigned_abs (last -ℤ first) + 1 }) n
    on true test = absurd (grind (arith, ints, test, low, high))
    on false test = record { low = omega (arith, ints); high = omega (arith, ints) }

-- a number of a dimension that is between the bounds is among the indices
pub in-cut : (extent : ℕ) (low high n : ℤ) → IsWithin extent n → low ≤ℤ n → n ≤ℤ high → IsIn (cut_between extent low high) n
in-cut extent low high n within below above =
    let zero_or_more = within.0 in
    let less = within.1 in
    in-between (int_max low (pos 0)) (int_min high (pos extent -ℤ pos 1)) n (omega (arith, ints, clamps)) (omega (arith, ints, clamps)) (omega (arith, ints, clamps))

-- an index inside the container that is in a box is in the box in numbers
pub in-intervals : (values : List ℤ) (extents : List ℕ) (box : Box) (index : List ℤ) → AllZip IsWithin extents index → IsInBox values box index → IsInIntervals (intervals_at values extents box) index
in-intervals values [] box [] within between = tt
in-intervals values [] box (n ∷ index) within between = absurd within
in-intervals values (extent ∷ extents) box [] within between = absurd within
in-intervals values (extent ∷ extents) [] (n ∷ index) within between = absurd between
in-intervals values (extent ∷ extents) (bounds ∷ box) (n ∷ index) within between =
    (in-cut extent (affine_value values bounds.low) (affine_value values bounds.high) n within.0 between.0.low between.0.high, in-intervals values extents box index within.1 between.1)

-- a number among the indices between two is from the first to the last
from-between : (first last n : ℤ) → pos 0 ≤ℤ first → IsIn (indices_between first last) n → (first ≤ℤ n) × (n ≤ℤ last)
from-between first last n above is = on (int_lt last first) refl is
  where
    on : (b : Bool) → int_lt last first ≡ b → IsIn (if b then no_indices else record { low = unsigned_abs first; count = unsigned_abs (last -ℤ first) + 1 }) n → (first ≤ℤ n) × (n ≤ℤ last)
    on true test is = let low = is.low in let high = is.high in absurd (omega (arith, ints))
    on false test is = let low = is.low in let high = is.high in let order : first ≤ℤ last = grind (arith, ints, test) in (omega (arith, ints), omega (arith, ints))

from-cut : (extent : ℕ) (low high n : ℤ) → IsIn (cut_between extent low high) n → IsWithin extent n × (low ≤ℤ n) × (n ≤ℤ high)
from-cut extent low high n is =
    let both = from-between (int_max low (pos 0)) (int_min high (pos extent -ℤ pos 1)) n (omega (arith, ints, clamps)) is in
    let below = both.0 in
    let above = both.1 in
    ((omega (arith, ints, clamps), omega (arith, ints, clamps)), omega (arith, ints, clamps), omega (arith, ints, clamps))

from-intervals : (values : List ℤ) (extents : List ℕ) (box : Box) (index : List ℤ) → length box ≡ length extents → IsInIntervals (intervals_at values extents box) index → AllZip IsWithin extents index × IsInBox values box index
from-intervals values [] [] [] same is = (tt, tt)
from-intervals values [] [] (n ∷ index) same is = absurd is
from-intervals values [] (bounds ∷ box) index same is = cc
from-intervals values (extent ∷ extents) [] index same is = cc
from-intervals values (extent ∷ extents) (bounds ∷ box) [] same is = absurd is
from-intervals values (extent ∷ extents) (bounds ∷ box) (n ∷ index) same is =
    let here = from-cut extent (affine_value values bounds.low) (affine_value values bounds.high) n is.0 in
    let others = from-intervals values extents box index (omega (arith, same)) is.1 in
    ((here.0, others.0), (record { low = here.1; high = here.2 }, others.1))

-- a box in numbers has the indices of its box inside the container, and no others
pub exactly-inside : (values : List ℤ) (extents : List ℕ) (box : Box) (index : List ℤ) → length box ≡ length extents →
    IsInIntervals (intervals_at values extents box) index ↔ ((inside extents index ≡ true) × IsInBox values box index)
exactly-inside values extents box index same = (
  λ is. let both = from-intervals values extents box index same is in (inside-from_each extents index both.0, both.1),
  λ (test, between). in-intervals values extents box index (inside-each extents index test) between,
)

-- there are as many dimensions as the container has
pub intervals-length : (values : List ℤ) (extents : List ℕ) (box : Box) → length (intervals_at values extents box) ≡ length extents
intervals-length values [] box = refl
intervals-length values (extent ∷ extents) [] = ap suc (intervals-length values extents [])
intervals-length values (extent ∷ extents) (bounds ∷ box) = ap suc (intervals-length values extents box)

-- an interval is within an extent
abbrev pub IsWithinExtent : Interval → ℕ → Type 0
IsWithinExtent interval extent = interval.low + interval.count ≤ extent

within-between : (first last : ℤ) (extent : ℕ) → pos 0 ≤ℤ first → last ≤ℤ (pos extent -ℤ pos 1) → IsWithinExtent (indices_between first last) extent
within-between first last extent above below = on (int_lt last first) refl
  where
    on : (b : Bool) → int_lt last first ≡ b → IsWithinExtent (if b then no_indices else record { low = unsigned_abs first; count = unsigned_abs (last -ℤ first) + 1 }) extent
    on true test = omega arith
    on false test = let order : first ≤ℤ last = grind (arith, ints, test) in omega (arith, ints)

pub intervals-within : (values : List ℤ) (extents : List ℕ) (box : Box) → AllZip IsWithinExtent (intervals_at values extents box) extents
intervals-within values [] box = tt
intervals-within values (extent ∷ extents) [] = (omega arith, intervals-within values extents [])
intervals-within values (extent ∷ extents) (bounds ∷ box) =
    (within-between (int_max (affine_value values bounds.low) (pos 0)) (int_min (affine_value values bounds.high) (pos extent -ℤ pos 1)) extent (omega (arith, ints, clamps)) (omega (arith, ints, clamps)), intervals-within values extents box)
