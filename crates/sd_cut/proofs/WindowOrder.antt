-- The elements of a window in row order.
use Rattle.std.proofs.Common.{◌≡◌, ℕ, zero, suc, ◌+◌, ◌/◌, ◌<◌, ◌==◌, ℤ, pos, ◌+ℤ◌, ◌-ℤ◌, neg_ℤ, List, [], ◌∷◌, ◌++◌, map, length, Some, None, option_map, slice_get, slice_index_or, flat_map, if◌then◌else◌, true, unsigned_abs, refl, sym, ◌∙◌, ap, arith}
use Rattle.std.proofs.lemmas.Int.{ints}
use Rattle.std.proofs.lemmas.List.{map-append}
use Rattle.std.proofs.lemmas.List.Concat.{flat_map-cons}
use Rattle.std.proofs.lemmas.Option.{slice_get-map}
use Rattle.sd_range.specs.Affine.{affine_value}
use Rattle.sd_range.specs.Range.{stepped, counted_from, count_between, least_value}
use Rattle.sd_range.specs.Points.{product}
use Rattle.sd_range.specs.Subset.{inside, whole, elements, dim_values}
use Rattle.sd_range.proofs.Stepped.{count-filled, count-empty}
use Rattle.sd_num.specs.declared.width.Width.{Width}
use Rattle.sd_work.specs.Memory.{Contents, array, stream, width_of, elements_of, seen}
use Rattle.sd_pieces.specs.cut.Naming.{AreContentsNamed}
use Rattle.sd_graph.specs.RowOrder.{row_number}
use Rattle.sd_graph.proofs.RowNumbers.{row_number_below, row_number_is_in_row_order}
use Rattle.sd_mem.specs.mem.Shaped.{Shaped, shape_at, contents_at, width_at, IsHere, IsWhole, element, alone}
use Rattle.sd_windows.specs.MapPieces.{number}
use Rattle.sd_windows.specs.Windows.{moved, place_within, place_if, numbers_in_window}
use Rattle.sd_windows.proofs.WindowNumbers.{inside-length, or_zero, tested, found_at, equal}
use Rattle.sd_cut.specs.Cells.{span_within, subset_within, value_or_zero, value_at}

-- ---- the values of a dimension

counted-moved : (b c : ℤ) (n : ℕ) → counted_from (b +ℤ c) (pos 1) n ≡ map (λ x. b +ℤ x) (counted_from c (pos 1) n)
counted-moved b c zero = refl
counted-moved b c (suc n) = ap (λ l. (b +ℤ c) ∷ l) (ap (λ z. counted_from z (pos 1) n) (omega (arith, ints)) ∙ counted-moved b (c +ℤ pos 1) n)

counted-within : (s : ℤ) (n : ℕ) → dim_values [] (span_within s n) ≡ map (λ x. neg_ℤ s +ℤ x) (counted_from (pos 0) (pos 1) n)
counted-within s n =
    (λ i. stepped (begins i) (ends i) (pos 1))
    ∙ ap (counted_from (neg_ℤ s +ℤ pos 0) (pos 1)) (counts n)
    ∙ counted-moved (neg_ℤ s) (pos 0) n
  where
    begins : affine_value [] (number (neg_ℤ s)) ≡ neg_ℤ s +ℤ pos 0
    begins = omega (arith, ints)

    ends : least_value [] (number ((pos n -ℤ pos 1) -ℤ s) ∷ []) ≡ (pos n -ℤ pos 1) -ℤ s
    ends = omega (arith, ints)

    counts : (n : ℕ) → count_between (neg_ℤ s +ℤ pos 0) ((pos n -ℤ pos 1) -ℤ s) (pos 1) ≡ n
    counts zero = count-empty (neg_ℤ s +ℤ pos 0) ((pos 0 -ℤ pos 1) -ℤ s) (pos 1) (omega (arith, ints))
    counts (suc m) =
        let gap : unsigned_abs (((pos (suc m) -ℤ pos 1) -ℤ s) -ℤ (neg_ℤ s +ℤ pos 0)) ≡ m = omega (arith, ints) in
        count-filled (neg_ℤ s +ℤ pos 0) ((pos (suc m) -ℤ pos 1) -ℤ s) (pos 1) (omega (arith, ints)) ∙ ap (λ n. n / 1 + 1) gap ∙ omega arith

pub span-counted : (s : ℤ) (n : ℕ) → dim_values [] (span_within s n) ≡ counted_from (neg_ℤ s) (pos 1) n
span-counted s n =
    let begin : neg_ℤ s +ℤ pos 0 ≡ neg_ℤ s = omega (arith, ints) in
    counted-within s n ∙ sym (counted-moved (neg_ℤ s) (pos 0) n) ∙ ap (λ z. counted_from z (pos 1) n) begin

-- ---- the elements of a window are the indices of its extents, moved back

map-map : {A B C D : Type 0} (f : B → C) (g : A → B) (h : D → C) (k : A → D) → ((x : A) → f (g x) ≡ h (k x)) → (xs : List A) → map f (map g xs) ≡ map h (map k xs)
map-map f g h k e [] = refl
map-map f g h k e (x ∷ xs) = λ i. e x i ∷ map-map f g h k e xs i

-- tuples of members that are moved are the tuples, moved
rows-moved : (s : ℤ) (shift firsts : List ℤ) (rows : List (List ℤ)) →
    flat_map (λ first. map (λ rest. first ∷ rest) (map (moved shift) rows)) (map (λ x. s +ℤ x) firsts)
    ≡ map (moved (s ∷ shift)) (flat_map (λ first. map (λ rest. first ∷ rest) rows) firsts)
rows-moved s shift [] rows = refl
rows-moved s shift (first ∷ firsts) rows =
    flat_map-cons (λ first. map (λ rest. first ∷ rest) (map (moved shift) rows)) (s +ℤ first) (map (λ x. s +ℤ x) firsts)
    ∙ (λ i. map-map (λ rest. (s +ℤ first) ∷ rest) (moved shift) (moved (s ∷ shift)) (λ rest. first ∷ rest) (λ rest. refl) rows i ++ rows-moved s shift firsts rows i)
    ∙ sym (map-append (moved (s ∷ shift)) (map (λ rest. first ∷ rest) rows) (flat_map (λ first. map (λ rest. first ∷ rest) rows) firsts))
    ∙ ap (map (moved (s ∷ shift))) (sym (flat_map-cons (λ first. map (λ rest. first ∷ rest) rows) first firsts))

pub within-moved : (shift : List ℤ) (extents : List ℕ) → length shift ≡ length extents → elements (subset_within shift extents) [] ≡ map (moved (map neg_ℤ shift)) (whole extents)
within-moved [] [] h = refl
within-moved [] (extent ∷ extents) h = cc
within-moved (s ∷ shift) [] h = cc
within-moved (s ∷ shift) (extent ∷ extents) h =
    (λ i. tuples_of (counted-within s extent i) (within-moved shift extents (omega (arith, h)) i))
    ∙ rows-moved (neg_ℤ s) (map neg_ℤ shift) (counted_from (pos 0) (pos 1) extent) (whole extents)
  where
    tuples_of : List ℤ → List (List ℤ) → List (List ℤ)
    tuples_of firsts rows = flat_map (λ first. map (λ rest. first ∷ rest) rows) firsts

-- back and forth
moved-back : (shift index : List ℤ) → length index ≡ length shift → moved (map neg_ℤ shift) (moved shift index) ≡ index
moved-back [] [] h = refl
moved-back [] (n ∷ index) h = cc
moved-back (s ∷ shift) [] h = cc
moved-back (s ∷ shift) (n ∷ index) h =
    let same : neg_ℤ s +ℤ (s +ℤ n) ≡ n = omega (arith, ints) in
    λ i. same i ∷ moved-back shift index (omega (arith, h)) i

-- the element at an index, by its number in the window
within-order : (shift : List ℤ) (extents : List ℕ) (index : List ℤ) → length shift ≡ length extents → length index ≡ length extents → inside extents (moved shift index) ≡ true →
    slice_get (elements (subset_within shift extents) []) (row_number extents (moved shift index)) ≡ Some index
within-order shift extents index p q h =
    ap (λ l. slice_get l (row_number extents (moved shift index))) (within-moved shift extents p)
    ∙ slice_get-map (moved (map neg_ℤ shift)) (whole extents) (row_number extents (moved shift index))
    ∙ ap (option_map (moved (map neg_ℤ shift))) (row_number_is_in_row_order extents (moved shift index) h)
    ∙ ap Some (moved-back shift index (q ∙ sym p))

-- ---- what a cut has

get-index : (xs : List ℤ) (e : ℕ) → e < length xs → slice_get xs e ≡ Some (slice_index_or xs e (pos 0))
get-index [] e h = absurd (omega (arith, h))
get-index (x ∷ xs) zero h = refl
get-index (x ∷ xs) (suc e) h = get-index xs e (omega (arith, h))

-- the value at an index that is inside
value-is : (memory : Shaped) (container : ℕ) (index : List ℤ) (width : Width) (xs : List ℤ) → contents_at memory container ≡ array width xs → inside (shape_at memory container) index ≡ true →
    value_at memory container index ≡ slice_index_or xs (row_number (shape_at memory container) index) (pos 0)
value-is memory container index width xs is h =
    ap (λ b. value_or_zero (seen (option_map (element container) (if b then Some (row_number (shape_at memory container) index) else None)) (alone memory))) h
    ∙ ap (λ k. slice_index_or (elements_of k) (row_number (shape_at memory container) index) (pos 0)) is

pub value-inside : (memory : Shaped) (container : ℕ) (index : List ℤ) → inside (shape_at memory container) index ≡ true →
    value_at memory container index ≡ slice_index_or (elements_of (contents_at memory container)) (row_number (shape_at memory container) index) (pos 0)
value-inside memory container index h =
    ap (λ b. value_or_zero (seen (option_map (element container) (if b then Some (row_number (shape_at memory container) index) else None)) (alone memory))) h

pub cut-has : (memory : Shaped) (container : ℕ) (shift : List ℤ) (extents : List ℕ) → length shift ≡ length extents → length extents ≡ length (shape_at memory container) → IsHere memory container →
    AreContentsNamed (numbers_in_window (shape_at memory container) (Some (record { shift = shift; extents = extents }))) (contents_at memory container) (array (width_at memory container) (map (value_at memory container) (elements (subset_within shift extents) [])))
cut-has memory container shift extents p q here = on (contents_at memory container) refl here
  where
    at : (width : Width) (xs : List ℤ) → contents_at memory container ≡ array width xs → length xs ≡ product (shape_at memory container) → (e k : ℕ) → numbers_in_window (shape_at memory container) (Some (record { shift = shift; extents = extents })) e ≡ Some k →
        slice_get xs e ≡ slice_get (map (value_at memory container) (elements (subset_within shift extents) [])) k
    at width xs is count e k n =
        let a = found_at (slice_get (whole (shape_at memory container)) e) (place_if (shape_at memory container) (record { shift = shift; extents = extents }) e) k n in
        let b = tested (inside (shape_at memory container) a.0) (if row_number (shape_at memory container) a.0 == e then place_within (record { shift = shift; extents = extents }) a.0 else None) k a.1 in
        let c = tested (row_number (shape_at memory container) a.0 == e) (place_within (record { shift = shift; extents = extents }) a.0) k b.1 in
        let d = tested (inside extents (moved shift a.0)) (Some (row_number extents (moved shift a.0))) k c.1 in
        let long : length a.0 ≡ length extents = inside-length (shape_at memory container) a.0 b.0 ∙ sym q in
        let place : row_number (shape_at memory container) a.0 ≡ e = equal (row_number (shape_at memory container) a.0) e c.0 in
        let less : row_number (shape_at memory container) a.0 < length xs = (let m = row_number_below (shape_at memory container) a.0 b.0 in omega (arith, m, count)) in
        let here : slice_get (elements (subset_within shift extents) []) k ≡ Some a.0 =
        ap (slice_get (elements (subset_within shift extents) [])) (ap or_zero (sym d.1)) ∙ within-order shift extents a.0 p long d.0 in
        ap (slice_get xs) (sym place)
        ∙ get-index xs (row_number (shape_at memory container) a.0) less
        ∙ ap Some (sym (value-is memory container a.0 width xs is b.0))
        ∙ sym (slice_get-map (value_at memory container) (elements (subset_within shift extents) []) k ∙ ap (option_map (value_at memory container)) here)

    on : (contents : Contents) → contents_at memory container ≡ contents → IsWhole (shape_at memory container) contents →
        AreContentsNamed (numbers_in_window (shape_at memory container) (Some (record { shift = shift; extents = extents }))) contents (array (width_at memory container) (map (value_at memory container) (elements (subset_within shift extents) [])))
    on (array width xs) is whole_here = (sym (ap width_of is), at width xs is whole_here)
    on (stream width values) is whole_here = elim whole_here [ ]
