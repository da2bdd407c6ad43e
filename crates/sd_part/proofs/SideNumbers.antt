-- The numbers along the dimensions of a box are those of its indices in the window.
use Rattle.std.proofs.Common.{◌≡◌, ℕ, zero, suc, ◌+◌, ◌-◌, ◌*◌, ◌<◌, ℤ, pos, ◌+ℤ◌, unsigned_abs, List, [], ◌∷◌, ◌++◌, map, length, flat_map, refl, sym, ◌∙◌, ap, arith}
use Rattle.std.proofs.lemmas.Int.{ints}
use Rattle.std.proofs.lemmas.List.{append_assoc, map-append}
use Rattle.std.proofs.lemmas.List.Concat.{flat_map-cons}
use Rattle.sd_range.specs.Range.{counted_from}
use Rattle.sd_range.specs.Points.{product}
use Rattle.sd_range.proofs.TupleLaws.{product-cons}
use Rattle.sd_graph.specs.RowOrder.{row_number}
use Rattle.sd_windows.specs.Windows.{moved}
use Rattle.sd_part.specs.declared.boxes.interval.Interval.{Interval}
use Rattle.sd_part.specs.Marks.{indices_of}
use Rattle.sd_part.specs.Sides.{sides_of, BeginsWithin, numbers_on, numbers_along}

-- ---- a step along a dimension

on-from : (k end : ℕ) → k < end → numbers_on k (end - k) ≡ k ∷ numbers_on (k + 1) (end - (k + 1))
on-from k end less =
    let more : end - k ≡ suc (end - (k + 1)) = omega arith in
    let next : suc k ≡ k + 1 = omega arith in
    ap (numbers_on k) more ∙ ap (λ n. k ∷ numbers_on n (end - (k + 1))) next

pub place-next : (numbers : ℕ → List ℕ) (all found next : List ℕ) (k end : ℕ) → k < end → next ≡ found ++ numbers k → found ++ flat_map numbers (numbers_on k (end - k)) ≡ all →
    next ++ flat_map numbers (numbers_on (k + 1) (end - (k + 1))) ≡ all
place-next numbers all found next k end less pushed h =
    ap (λ l. l ++ flat_map numbers (numbers_on (k + 1) (end - (k + 1)))) pushed
    ∙ append_assoc found (numbers k) (flat_map numbers (numbers_on (k + 1) (end - (k + 1))))
    ∙ ap (λ l. found ++ l) (sym (flat_map-cons numbers k (numbers_on (k + 1) (end - (k + 1)))))
    ∙ ap (λ l. found ++ flat_map numbers l) (sym (on-from k end less))
    ∙ h

-- ---- all of them

-- the number of an index in a row
abbrev number_in : (shift : List ℤ) → (extents : List ℕ) → (row : ℕ) → (index : List ℤ) → ℕ
number_in shift extents row index = row * product extents + row_number extents (moved shift index)

map-same : {A B C : Type 0} (f : B → C) (g : A → B) (h : A → C) → ((a : A) → f (g a) ≡ h a) → (all : List A) → map f (map g all) ≡ map h all
map-same f g h e [] = refl
map-same f g h e (a ∷ all) = λ i. e a i ∷ map-same f g h e all i

-- the number of an index in a row is that of the others in the row that its first number leads to
first-number : (row extent rows rest first place : ℕ) → row * (extent * rows) + ((first + place) * rows + rest) ≡ ((row * extent + first) + place) * rows + rest
first-number row extent rows rest first place = grind arith

along : (shift : List ℤ) (extents : List ℕ) (intervals : List Interval) (s : ℤ) (e low first row j count : ℕ) → s +ℤ (pos low +ℤ pos j) ≡ pos (first + j) →
    ((base : ℕ) → numbers_along (sides_of shift extents intervals) base ≡ map (number_in shift extents base) (indices_of intervals)) →
    flat_map (λ place. numbers_along (sides_of shift extents intervals) ((row * e + first) + place)) (numbers_on j count)
    ≡ map (number_in (s ∷ shift) (e ∷ extents) row) (flat_map (λ n. map (λ rest. n ∷ rest) (indices_of intervals)) (counted_from (pos low +ℤ pos j) (pos 1) count))
along shift extents intervals s e low first row j zero at inner = refl
along shift extents intervals s e low first row j (suc count) at inner =
    let b = pos low +ℤ pos j in
    let numbers = λ (place : ℕ). numbers_along (sides_of shift extents intervals) ((row * e + first) + place) in
    let rows = λ (n : ℤ). map (λ (rest : List ℤ). n ∷ rest) (indices_of intervals) in
    let one : (index : List ℤ) → number_in (s ∷ shift) (e ∷ extents) row (b ∷ index) ≡ number_in shift extents ((row * e + first) + j) index = λ index.
    (λ i. row * product-cons e extents i + (unsigned_abs (at i) * product extents + row_number extents (moved shift index)))
    ∙ first-number row e (product extents) (row_number extents (moved shift index)) first j in
    let here : numbers j ≡ map (number_in (s ∷ shift) (e ∷ extents) row) (rows b) =
    inner ((row * e + first) + j) ∙ sym (map-same (number_in (s ∷ shift) (e ∷ extents) row) (λ (rest : List ℤ). b ∷ rest) (number_in shift extents ((row * e + first) + j)) one (indices_of intervals)) in
    let on : pos low +ℤ pos (suc j) ≡ b +ℤ pos 1 = omega (arith, ints) in
    let later : s +ℤ (pos low +ℤ pos (suc j)) ≡ pos (first + suc j) = omega (arith, ints, at) in
    flat_map-cons numbers j (numbers_on (suc j) count)
    ∙ (λ i. here i ++ along shift extents intervals s e low first row (suc j) count later inner i)
    ∙ ap (λ z. map (number_in (s ∷ shift) (e ∷ extents) row) (rows b) ++ map (number_in (s ∷ shift) (e ∷ extents) row) (flat_map rows (counted_from z (pos 1) count))) on
    ∙ sym (map-append (number_in (s ∷ shift) (e ∷ extents) row) (rows b) (flat_map rows (counted_from (b +ℤ pos 1) (pos 1) count)))
    ∙ ap (map (number_in (s ∷ shift) (e ∷ extents) row)) (sym (flat_map-cons rows b (counted_from (b +ℤ pos 1) (pos 1) count)))

numbers-in : (shift : List ℤ) (extents : List ℕ) (intervals : List Interval) (row : ℕ) → length shift ≡ length intervals → length extents ≡ length intervals → BeginsWithin shift intervals →
    numbers_along (sides_of shift extents intervals) row ≡ map (number_in shift extents row) (indices_of intervals)
numbers-in [] [] [] row p q h = let same : row ≡ row * 1 + 0 = omega arith in ap (λ n. n ∷ []) same
numbers-in [] (e ∷ extents) [] row p q h = cc
numbers-in [] extents (i ∷ intervals) row p q h = cc
numbers-in (s ∷ shift) extents [] row p q h = cc
numbers-in (s ∷ shift) [] (i ∷ intervals) row p q h = cc
numbers-in (s ∷ shift) (e ∷ extents) (i ∷ intervals) row p q h =
    let first = unsigned_abs (s +ℤ pos i.low) in
    let above = h.0 in
    let at : s +ℤ (pos i.low +ℤ pos 0) ≡ pos (first + 0) = omega (arith, ints, above) in
    let begin : pos i.low +ℤ pos 0 ≡ pos i.low = omega (arith, ints) in
    along shift extents intervals s e i.low first row 0 i.count at (λ base. numbers-in shift extents intervals base (omega (arith, p)) (omega (arith, q)) h.1)
    ∙ ap (λ z. map (number_in (s ∷ shift) (e ∷ extents) row) (flat_map (λ n. map (λ (rest : List ℤ). n ∷ rest) (indices_of intervals)) (counted_from z (pos 1) i.count))) begin

-- those of the row that has all
pub numbers-are : (shift : List ℤ) (extents : List ℕ) (intervals : List Interval) → length shift ≡ length intervals → length extents ≡ length intervals → BeginsWithin shift intervals →
    numbers_along (sides_of shift extents intervals) 0 ≡ map (λ index. row_number extents (moved shift index)) (indices_of intervals)
numbers-are shift extents intervals p q h = numbers-in shift extents intervals 0 p q h ∙ zeros (indices_of intervals)
  where
    zeros : (all : List (List ℤ)) → map (number_in shift extents 0) all ≡ map (λ index. row_number extents (moved shift index)) all
    zeros [] = refl
    zeros (index ∷ all) = let same : 0 * product extents + row_number extents (moved shift index) ≡ row_number extents (moved shift index) = grind arith in λ i. same i ∷ zeros all i
