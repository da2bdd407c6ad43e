-- The place of an index, number by number.
use Rattle.std.proofs.Common.{◌≡◌, ℕ, suc, ◌+◌, ◌*◌, ◌<◌, ◌≤◌, ℤ, pos, negsuc, ◌+ℤ◌, ◌*ℤ◌, List, [], ◌∷◌, length, drop, Bool, true, false, ◌&&◌, int_le, int_lt, unsigned_abs, slice_index_or, Some, None, refl, ap, sym, subst, ◌∙◌, arith, add-one, drop-cons}
use Rattle.std.proofs.Math.Nat.{le-mul_of_pos_right}
use Rattle.sd_graph.proofs.RowNumbers.{row_number_below}
use Rattle.std.proofs.lemmas.Int.{ints}
use Rattle.sd_range.specs.Points.{product}
use Rattle.sd_range.specs.Subset.{inside}
use Rattle.sd_range.proofs.TupleLaws.{product-cons}
use Rattle.sd_graph.specs.RowOrder.{row_number}
use Rattle.sd_mem.specs.mem.Shaped.{place_in}
use Rattle.sd_mem.specs.mem.Strides.{strides, strided}

-- of two tests that pass together each passes
both : (a b : Bool) → (a && b) ≡ true → (a ≡ true) × (b ≡ true)
both true b test = (refl, test)
both false b test = cc

-- a number that is inside is not below 0, and its size is below the extent
number_inside : (extent : ℕ) (number : ℤ) → (int_le (pos 0) number && int_lt number (pos extent)) ≡ true → (pos (unsigned_abs number) ≡ number) × (unsigned_abs number < extent)
number_inside extent (pos number) test = (refl, grind (arith, ints))
number_inside extent (negsuc number) test = cc

-- a stride times a number, and the rest
joined : (stride size rest : ℕ) (number others : ℤ) → pos size ≡ number → pos rest ≡ others → pos (size * stride + rest) ≡ (pos stride *ℤ number) +ℤ others
joined stride size rest number others is rest_is = rw (sym is, sym rest_is) (omega (arith, ints))

-- the place is the sum of strides times numbers
pub place-strided : (shape : List ℕ) (index : List ℤ) → inside shape index ≡ true → pos (row_number shape index) ≡ strided (strides shape) index
place-strided [] index is = refl
place-strided (extent ∷ shape) [] is = refl
place-strided (extent ∷ shape) (number ∷ index) is =
    let parts = both (int_le (pos 0) number && int_lt number (pos extent)) (inside shape index) is in
    joined (product shape) (unsigned_abs number) (row_number shape index) number (strided (strides shape) index)
    (number_inside extent number parts.0).0 (place-strided shape index parts.1)

-- it is there
pub place-known : (shape : List ℕ) (index : List ℤ) → inside shape index ≡ true → place_in shape index ≡ Some (row_number shape index)
place-known shape index is = rw is refl

-- ---- going through an index

-- a place, with what is left of the index, is that of all; with one number more it is so too
further_sum : (place extent number stride rest all : ℕ) → place * (extent * stride) + (number * stride + rest) ≡ all → (place * extent + number) * stride + rest ≡ all
further_sum place extent number stride rest all is = omega (arith, is)

-- it is no more than that of all
at_most_all : (place stride rest all : ℕ) → 0 < stride → place * stride + rest ≡ all → place ≤ all
at_most_all place stride rest all some is = omega (arith, is, le-mul_of_pos_right place some)

-- what is left of an index that is inside
pub record Left (extent : ℕ) (shape : List ℕ) (number : ℤ) (index : List ℤ) (place all : ℕ) : Type 0 where
  pub further : (place * extent + unsigned_abs number) * product shape + row_number shape index ≡ all
  pub inside : inside shape index ≡ true
  pub within : place * extent + unsigned_abs number ≤ all

pub left-cons : (extent : ℕ) (shape : List ℕ) (number : ℤ) (index : List ℤ) (place all : ℕ) → inside (extent ∷ shape) (number ∷ index) ≡ true →
    place * product (extent ∷ shape) + row_number (extent ∷ shape) (number ∷ index) ≡ all → Left extent shape number index place all
left-cons extent shape number index place all is sum =
    let parts = both (int_le (pos 0) number && int_lt number (pos extent)) (inside shape index) is in
    let next = further_sum place extent (unsigned_abs number) (product shape) (row_number shape index) all
    (ap (λ (n : ℕ). place * n + row_number (extent ∷ shape) (number ∷ index)) (sym (product-cons extent shape)) ∙ sum) in
    let some : 0 < product shape = omega (arith, row_number_below shape index parts.1) in
    record { further = next; inside = parts.1; within = at_most_all (place * extent + unsigned_abs number) (product shape) (row_number shape index) all some next }

-- the same of what is left from a number on
pub left-drop : (shape : List ℕ) (index : List ℤ) (i e : ℕ) (n : ℤ) (place all : ℕ) → i < length shape → i < length index → inside (drop i shape) (drop i index) ≡ true →
    place * product (drop i shape) + row_number (drop i shape) (drop i index) ≡ all →
    Left (slice_index_or shape i e) (drop (i + 1) shape) (slice_index_or index i n) (drop (i + 1) index) place all
left-drop shape index i e n place all below within is sum =
    let shape_is = drop-cons shape i e below in
    let index_is = drop-cons index i n within in
    rw add-one (left-cons (slice_index_or shape i e) (drop (suc i) shape) (slice_index_or index i n) (drop (suc i) index) place all
    (rw (shape_is, index_is) at is) (rw (shape_is, index_is) at sum))

-- what is known is one
some_is : (a b : ℕ) → Some a ≡ Some b → a ≡ b
some_is a b same = cc

no_some : (a : ℕ) → Some a ≡ None → ⊥
no_some a same = cc

-- the place of an index is below the number of elements
pub place-below : (shape : List ℕ) (index : List ℤ) (place : ℕ) → Some place ≡ place_in shape index → place < product shape
place-below shape index place is = by_test (inside shape index) refl
  where
    by_test : (test : Bool) → inside shape index ≡ test → place < product shape
    by_test true test = subst (λ (n : ℕ). n < product shape) (some_is _ _ (sym (rw test at is))) (row_number_below shape index test)
    by_test false test = absurd (no_some place (rw test at is))

-- an index that is inside has a number for each extent
pub inside-length : (shape : List ℕ) (index : List ℤ) → inside shape index ≡ true → length index ≡ length shape
inside-length [] [] is = refl
inside-length [] (number ∷ index) is = cc
inside-length (extent ∷ shape) [] is = cc
inside-length (extent ∷ shape) (number ∷ index) is =
    ap suc (inside-length shape index (both (int_le (pos 0) number && int_lt number (pos extent)) (inside shape index) is).1)
