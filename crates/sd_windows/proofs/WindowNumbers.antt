-- Windows number their elements one to one, and reach them by these numbers.
use Rattle.std.proofs.Common.{◌≡◌, ℕ, suc, ◌==◌, ℤ, ◌+ℤ◌, List, [], ◌∷◌, length, Option, Some, None, Bool, true, false, ◌&&◌, slice_get, if◌then◌else◌, refl, sym, ◌∙◌, ap, arith, rules}
use Rattle.std.specs.Option.{option_and_then}
use Rattle.sd_range.specs.Subset.{inside, whole}
use Rattle.sd_pieces.specs.cut.Naming.{IsOneToOne}
use Rattle.sd_graph.specs.RowOrder.{row_number}
use Rattle.sd_graph.specs.ContainerParts.{Containers, container_at, extents_of}
use Rattle.sd_graph.specs.Context.{own_reach, found}
use Rattle.sd_graph.proofs.RowNumbers.{row_number_is_one, row_number_is_in_row_order}
use Rattle.sd_windows.specs.NamedContext.{reach_named}
use Rattle.sd_windows.specs.Windows.{Window, moved, place_within, place_if, numbers_in_window, numbers_of, HasDimensions, reach_in_window}

-- ---- indices

pub inside-length : (extents : List ℕ) (index : List ℤ) → inside extents index ≡ true → length index ≡ length extents
inside-length [] [] h = refl
inside-length [] (number ∷ index) h = cc
inside-length (extent ∷ extents) [] h = cc
inside-length (extent ∷ extents) (number ∷ index) h = ap suc (inside-length extents index (second _ (inside extents index) h))
  where
    second : (a b : Bool) → (a && b) ≡ true → b ≡ true
    second true b h = h
    second false b h = cc

added-one : (s a b : ℤ) → s +ℤ a ≡ s +ℤ b → a ≡ b
added-one s a b e = grind (arith, e)

abbrev first_or : ℤ → List ℤ → ℤ
first_or d [] = d
first_or d (x ∷ xs) = x

abbrev rest_of : List ℤ → List ℤ
rest_of [] = []
rest_of (x ∷ xs) = xs

moved-one : (shift i j : List ℤ) → length shift ≡ length i → length shift ≡ length j → moved shift i ≡ moved shift j → i ≡ j
moved-one [] [] [] p q e = refl
moved-one [] [] (b ∷ j) p q e = cc
moved-one [] (a ∷ i) j p q e = cc
moved-one (s ∷ shift) [] j p q e = cc
moved-one (s ∷ shift) (a ∷ i) [] p q e = cc
moved-one (s ∷ shift) (a ∷ i) (b ∷ j) p q e =
    let x = added-one s a b (ap (first_or a) e) in
    let y = moved-one shift i j (omega (arith, p)) (omega (arith, q)) (ap rest_of e) in
    λ k. x k ∷ y k

-- ---- numbers

abbrev pub or_zero : Option ℕ → ℕ
or_zero None = 0
or_zero (Some n) = n

same-number : (n : ℕ) → (n == n) ≡ true
same-number n = search rules

-- what a test that gave something was
pub tested : (b : Bool) (o : Option ℕ) (k : ℕ) → (if b then o else None) ≡ Some k → (b ≡ true) × (o ≡ Some k)
tested true o k e = (refl, e)
tested false o k e = cc

pub found_at : (o : Option (List ℤ)) (f : List ℤ → Option ℕ) (k : ℕ) → option_and_then f o ≡ Some k → (i : List ℤ) × (f i ≡ Some k)
found_at None f k e = cc
found_at (Some i) f k e = (i, e)

pub equal : (a b : ℕ) → (a == b) ≡ true → a ≡ b
equal a b e = search rules

numbers-one : (extents : List ℕ) (w : Option Window) → HasDimensions extents w → (e f k : ℕ) → numbers_in_window extents w e ≡ Some k → numbers_in_window extents w f ≡ Some k → e ≡ f
numbers-one extents None h e f k p q = cc
numbers-one extents (Some w) h e f k p q =
    let a = found_at (slice_get (whole extents) e) (place_if extents w e) k p in
    let b = found_at (slice_get (whole extents) f) (place_if extents w f) k q in
    let a1 = tested (inside extents a.0) (if row_number extents a.0 == e then place_within w a.0 else None) k a.1 in
    let b1 = tested (inside extents b.0) (if row_number extents b.0 == f then place_within w b.0 else None) k b.1 in
    let a2 = tested (row_number extents a.0 == e) (place_within w a.0) k a1.1 in
    let b2 = tested (row_number extents b.0 == f) (place_within w b.0) k b1.1 in
    let a3 = tested (inside w.extents (moved w.shift a.0)) (Some (row_number w.extents (moved w.shift a.0))) k a2.1 in
    let b3 = tested (inside w.extents (moved w.shift b.0)) (Some (row_number w.extents (moved w.shift b.0))) k b2.1 in
    let same : row_number w.extents (moved w.shift a.0) ≡ row_number w.extents (moved w.shift b.0) = ap or_zero (a3.1 ∙ sym b3.1) in
    let index : a.0 ≡ b.0 =
    moved-one w.shift a.0 b.0 (h ∙ sym (inside-length extents a.0 a1.0)) (h ∙ sym (inside-length extents b.0 b1.0))
    (row_number_is_one w.extents (moved w.shift a.0) (moved w.shift b.0) a3.0 b3.0 same) in
    sym (equal (row_number extents a.0) e a2.0) ∙ ap (row_number extents) index ∙ equal (row_number extents b.0) f b2.0

pub windows-are-one-to-one : (containers : Containers) (windows : ℕ → Option Window) → ((container : ℕ) → HasDimensions (extents_of (container_at containers container)) (windows container)) → IsOneToOne (numbers_of containers windows)
windows-are-one-to-one containers windows h = λ c e f k. numbers-one (extents_of (container_at containers c)) (windows c) (h c) e f k

-- the number of the element at an index
number-at : (extents : List ℕ) (w : Window) (index : List ℤ) → inside extents index ≡ true → numbers_in_window extents (Some w) (row_number extents index) ≡ place_within w index
number-at extents w index h =
    ap (λ o. option_and_then (place_if extents w (row_number extents index)) o) (row_number_is_in_row_order extents index h)
    ∙ ap (λ b. if b then (if row_number extents index == row_number extents index then place_within w index else None) else None) h
    ∙ ap (λ b. if b then place_within w index else None) (same-number (row_number extents index))

found-named : (extents : List ℕ) (w : Window) (index : List ℤ) (b : Bool) → inside extents index ≡ b →
    (if b then place_within w index else None) ≡ option_and_then (numbers_in_window extents (Some w)) (if b then Some (row_number extents index) else None)
found-named extents w index true h = sym (number-at extents w index h)
found-named extents w index false h = refl

found-own : {A : Type 0} (o : Option A) → o ≡ option_and_then Some o
found-own None = refl
found-own (Some x) = refl

pub window-reach : (containers : Containers) (windows : ℕ → Option Window) (container : ℕ) →
    reach_in_window containers container (windows container) ≡ reach_named (numbers_of containers windows) 0 (own_reach containers container)
window-reach containers windows container = on (windows container)
  where
    on : (w : Option Window) →
        reach_in_window containers container w
        ≡ record (own_reach containers container) { find = λ index. option_and_then (numbers_in_window (extents_of (container_at containers container)) w) (found (container_at containers container) index) }
    on None = λ i. record { level = 0; container = container; find = λ index. found-own (found (container_at containers container) index) i }
    on (Some w) = λ i. record {
      level = 0;
      container = container;
      find = λ index. found-named (extents_of (container_at containers container)) w index (inside (extents_of (container_at containers container)) index) refl i;
    }
