-- The elements of a window, row by row.
use Rattle.std.proofs.Common.{◌≡◌, ℕ, zero, suc, ◌+◌, ◌-◌, ◌<◌, ◌≤◌, ℤ, pos, ◌+ℤ◌, ◌-ℤ◌, ◌≤ℤ◌, neg_ℤ, unsigned_abs, int_le, int_lt, ◌&&◌, List, [], ◌∷◌, ◌++◌, map, length, take, Option, Some, None, IsSome, slice_get, slice_index_or, if◌then◌else◌, Bool, true, false, refl, sym, ◌∙◌, ap, subst, arith}
use Rattle.std.specs.List.{All, flat_map}
use Rattle.std.specs.Option.{option_and_then}
use Rattle.std.proofs.lemmas.Int.{ints}
use Rattle.std.proofs.lemmas.List.{append_assoc, map-append}
use Rattle.std.proofs.lemmas.List.Concat.{flat_map-cons}
use Rattle.std.proofs.lemmas.List.Elements.{All-cons, All-head, All-tail, All-nil}
use Rattle.sd_range.specs.Range.{counted_from}
use Rattle.sd_range.specs.Points.{tuples}
use Rattle.sd_range.specs.Subset.{inside, elements, dim_values}
use Rattle.sd_graph.specs.RowOrder.{row_number}
use Rattle.sd_mem.specs.mem.Shaped.{Shaped, contents_at, shape_at, place_in}
use Rattle.sd_work.specs.Memory.{elements_of}
use Rattle.sd_cut.specs.Cells.{spans_within}
use Rattle.sd_cut.specs.Cutting.{element_there}
use Rattle.sd_cut.specs.declared.elements.CutElement.{CutElement}
use Rattle.sd_cut.specs.Elements.{told, told_at}
use Rattle.sd_windows.specs.Windows.{Window}
use Rattle.sd_cut.specs.Cutting.{IsRefusalOf}
use Rattle.sd_cut.specs.declared.refusal.CutError.{CutError}
use Rattle.sd_cut.specs.declared.refusal.CutError.TheVariants.{Outside, Memory}
use Rattle.sd_cut.specs.Rows.{row_told, indices_behind, AreThere, all_told, IsMissing}
use Rattle.sd_cut.proofs.WindowOrder.{span-counted, value-inside}

-- ---- lists

map_all : {A : Type 0} (xs : List A) → map (λ x. x) xs ≡ xs
map_all [] = refl
map_all (x ∷ xs) = ap (λ l. x ∷ l) (map_all xs)

-- at the top nothing stands before an index
pub behind_none : (shift : List ℤ) (extents : List ℕ) → indices_behind [] shift extents ≡ tuples (map (dim_values []) (spans_within shift extents))
behind_none shift extents = map_all (tuples (map (dim_values []) (spans_within shift extents)))

all_front : {A : Type 0} (P : A → Type 0) (xs ys : List A) → All P (xs ++ ys) → All P xs
all_front P [] ys h = All-nil P
all_front P (x ∷ xs) ys h = All-cons P x xs (All-head P x (xs ++ ys) h) (all_front P xs ys (All-tail P x (xs ++ ys) h))

all_back : {A : Type 0} (P : A → Type 0) (xs ys : List A) → All P (xs ++ ys) → All P ys
all_back P [] ys h = h
all_back P (x ∷ xs) ys h = all_back P xs ys (All-tail P x (xs ++ ys) h)

all_both : {A : Type 0} (P : A → Type 0) (xs ys : List A) → All P xs → All P ys → All P (xs ++ ys)
all_both P [] ys f h = h
all_both P (x ∷ xs) ys f h = All-cons P x (xs ++ ys) (All-head P x xs f) (all_both P xs ys (All-tail P x xs f) h)

append_none : {A : Type 0} (xs : List A) → xs ++ [] ≡ xs
append_none [] = refl
append_none (x ∷ xs) = ap (λ l. x ∷ l) (append_none xs)

map_behind : (before : List ℤ) (n : ℤ) (rests : List (List ℤ)) → map (λ rest. before ++ rest) (map (λ rest. n ∷ rest) rests) ≡ map (λ rest. (before ++ n ∷ []) ++ rest) rests
map_behind before n [] = refl
map_behind before n (rest ∷ rests) = λ i. sym (append_assoc before (n ∷ []) rest) i ∷ map_behind before n rests i

-- ---- the rows behind some numbers, from one of them on

-- the indices behind these numbers that go on with one of so many, from one on, and then with one of these
abbrev pub rows_behind : (before : List ℤ) → (rests : List (List ℤ)) → (first : ℤ) → (count : ℕ) → List (List ℤ)
rows_behind before rests first count = map (λ rest. before ++ rest) (flat_map (λ n. map (λ rest. n ∷ rest) rests) (counted_from first (pos 1) count))

pub behind_rows : (before : List ℤ) (s : ℤ) (e : ℕ) (shift : List ℤ) (extents : List ℕ) →
    indices_behind before (s ∷ shift) (e ∷ extents) ≡ rows_behind before (tuples (map (dim_values []) (spans_within shift extents))) (neg_ℤ s) e
behind_rows before s e shift extents =
    ap (λ values. map (λ rest. before ++ rest) (flat_map (λ n. map (λ rest. n ∷ rest) (tuples (map (dim_values []) (spans_within shift extents)))) values)) (span-counted s e)

rows_next : (before : List ℤ) (rests : List (List ℤ)) (first : ℤ) (count : ℕ) →
    rows_behind before rests first (suc count) ≡ map (λ rest. (before ++ first ∷ []) ++ rest) rests ++ rows_behind before rests (first +ℤ pos 1) count
rows_next before rests first count =
    ap (map (λ rest. before ++ rest)) (flat_map-cons (λ n. map (λ rest. n ∷ rest) rests) first (counted_from (first +ℤ pos 1) (pos 1) count))
    ∙ map-append (λ rest. before ++ rest) (map (λ rest. first ∷ rest) rests) (flat_map (λ n. map (λ rest. n ∷ rest) rests) (counted_from (first +ℤ pos 1) (pos 1) count))
    ∙ ap (λ l. l ++ rows_behind before rests (first +ℤ pos 1) count) (map_behind before first rests)

-- those from one of them on
abbrev pub rows_left : (before : List ℤ) → (rests : List (List ℤ)) → (low : ℤ) → (extent place : ℕ) → List (List ℤ)
rows_left before rests low extent place = rows_behind before rests (low +ℤ pos place) (extent - place)

pub rows_first : (before : List ℤ) (s : ℤ) (e : ℕ) (shift : List ℤ) (extents : List ℕ) →
    indices_behind before (s ∷ shift) (e ∷ extents) ≡ rows_behind before (tuples (map (dim_values []) (spans_within shift extents))) (neg_ℤ s +ℤ pos 0) e
rows_first before s e shift extents =
    let same : neg_ℤ s ≡ neg_ℤ s +ℤ pos 0 = omega (arith, ints) in
    behind_rows before s e shift extents ∙ ap (λ z. rows_behind before (tuples (map (dim_values []) (spans_within shift extents))) z e) same

pub rows_all : (before : List ℤ) (s : ℤ) (e : ℕ) (shift : List ℤ) (extents : List ℕ) →
    indices_behind before (s ∷ shift) (e ∷ extents) ≡ rows_left before (tuples (map (dim_values []) (spans_within shift extents))) (neg_ℤ s) e 0
rows_all before s e shift extents =
    let whole : e ≡ e - 0 = omega arith in
    rows_first before s e shift extents ∙ ap (rows_behind before (tuples (map (dim_values []) (spans_within shift extents))) (neg_ℤ s +ℤ pos 0)) whole

pub rows_one : (before : List ℤ) (rests : List (List ℤ)) (low : ℤ) (extent place : ℕ) → place < extent →
    rows_left before rests low extent place ≡ map (λ rest. (before ++ (low +ℤ pos place) ∷ []) ++ rest) rests ++ rows_left before rests low extent (place + 1)
rows_one before rests low extent place less =
    let more : extent - place ≡ suc (extent - (place + 1)) = omega arith in
    let next : (low +ℤ pos place) +ℤ pos 1 ≡ low +ℤ pos (place + 1) = omega (arith, ints) in
    ap (rows_behind before rests (low +ℤ pos place)) more
    ∙ rows_next before rests (low +ℤ pos place) (extent - (place + 1))
    ∙ ap (λ z. map (λ rest. (before ++ (low +ℤ pos place) ∷ []) ++ rest) rests ++ rows_behind before rests z (extent - (place + 1))) next

pub rows_none : (before : List ℤ) (rests : List (List ℤ)) (low : ℤ) (extent place : ℕ) → extent ≤ place → rows_left before rests low extent place ≡ []
rows_none before rests low extent place less = let none : extent - place ≡ 0 = omega arith in ap (rows_behind before rests (low +ℤ pos place)) none

-- ---- what holds of one row and of those behind it

pub there_both : (memory : Shaped) (container : ℕ) (before : List ℤ) (rests : List (List ℤ)) (low : ℤ) (extent place : ℕ) → place < extent →
    AreThere memory container (map (λ rest. (before ++ (low +ℤ pos place) ∷ []) ++ rest) rests) → AreThere memory container (rows_left before rests low extent (place + 1)) →
    AreThere memory container (rows_left before rests low extent place)
there_both memory container before rests low extent place less one more =
    subst (AreThere memory container) (sym (rows_one before rests low extent place less))
    (all_both (λ index. IsSome (element_there memory container index)) (map (λ rest. (before ++ (low +ℤ pos place) ∷ []) ++ rest) rests) (rows_left before rests low extent (place + 1)) one more)

pub there_one : (memory : Shaped) (container : ℕ) (before : List ℤ) (rests : List (List ℤ)) (low : ℤ) (extent place : ℕ) → place < extent → AreThere memory container (rows_left before rests low extent place) →
    AreThere memory container (map (λ rest. (before ++ (low +ℤ pos place) ∷ []) ++ rest) rests)
there_one memory container before rests low extent place less all =
    all_front (λ index. IsSome (element_there memory container index)) (map (λ rest. (before ++ (low +ℤ pos place) ∷ []) ++ rest) rests) (rows_left before rests low extent (place + 1))
    (subst (AreThere memory container) (rows_one before rests low extent place less) all)

pub there_more : (memory : Shaped) (container : ℕ) (before : List ℤ) (rests : List (List ℤ)) (low : ℤ) (extent place : ℕ) → place < extent → AreThere memory container (rows_left before rests low extent place) →
    AreThere memory container (rows_left before rests low extent (place + 1))
there_more memory container before rests low extent place less all =
    all_back (λ index. IsSome (element_there memory container index)) (map (λ rest. (before ++ (low +ℤ pos place) ∷ []) ++ rest) rests) (rows_left before rests low extent (place + 1))
    (subst (AreThere memory container) (rows_one before rests low extent place less) all)

pub told_more : (memory : Shaped) (container : ℕ) (before : List ℤ) (rests : List (List ℤ)) (low : ℤ) (extent place : ℕ) (so next : List (Option ℕ × ℤ)) → place < extent →
    next ≡ so ++ all_told memory container (map (λ rest. (before ++ (low +ℤ pos place) ∷ []) ++ rest) rests) →
    next ++ all_told memory container (rows_left before rests low extent (place + 1)) ≡ so ++ all_told memory container (rows_left before rests low extent place)
told_more memory container before rests low extent place so next less pushed =
    let one = map (λ rest. (before ++ (low +ℤ pos place) ∷ []) ++ rest) rests in
    ap (λ l. l ++ all_told memory container (rows_left before rests low extent (place + 1))) pushed
    ∙ append_assoc so (all_told memory container one) (all_told memory container (rows_left before rests low extent (place + 1)))
    ∙ ap (λ l. so ++ l)
    (sym (map-append (told_at memory container) one (rows_left before rests low extent (place + 1))) ∙ ap (all_told memory container) (sym (rows_one before rests low extent place less)))

-- ---- an element of a row

both : (a b : Bool) → (a && b) ≡ true → (a ≡ true) × (b ≡ true)
both true b h = (refl, h)
both false b h = cc

and_true : (a b : Bool) → a ≡ true → b ≡ true → (a && b) ≡ true
and_true true b p q = q
and_true false b p q = cc

from_zero : (e : ℕ) (a : ℤ) → (int_le (pos 0) a && int_lt a (pos e)) ≡ true → pos 0 ≤ℤ a
from_zero e a h = let p = (both (int_le (pos 0) a) (int_lt a (pos e)) h).0 in grind (arith, p)

between : (e : ℕ) (a b n : ℤ) → (int_le (pos 0) a && int_lt a (pos e)) ≡ true → (int_le (pos 0) b && int_lt b (pos e)) ≡ true → a ≤ℤ n → n ≤ℤ b → (int_le (pos 0) n && int_lt n (pos e)) ≡ true
between e a b n p q low high =
    let above = (both (int_le (pos 0) a) (int_lt a (pos e)) p).0 in
    let below = (both (int_le (pos 0) b) (int_lt b (pos e)) q).1 in
    and_true (int_le (pos 0) n) (int_lt n (pos e)) (grind (arith, above, low)) (grind (arith, below, high))

-- an index between two of a row is inside, and so many further than the first one
row_between : (shape : List ℕ) (before : List ℤ) (a b n : ℤ) → inside shape (before ++ a ∷ []) ≡ true → inside shape (before ++ b ∷ []) ≡ true → a ≤ℤ n → n ≤ℤ b →
    (inside shape (before ++ n ∷ []) ≡ true) × (row_number shape (before ++ n ∷ []) ≡ row_number shape (before ++ a ∷ []) + unsigned_abs (n -ℤ a))
row_between [] [] a b n p q low high = cc
row_between [] (x ∷ before) a b n p q low high = cc
row_between (e ∷ []) [] a b n p q low high =
    let pa = (both (int_le (pos 0) a && int_lt a (pos e)) true p).0 in
    let qb = (both (int_le (pos 0) b && int_lt b (pos e)) true q).0 in
    let zero_up = from_zero e a pa in
    let further : unsigned_abs n ≡ unsigned_abs a + unsigned_abs (n -ℤ a) = omega (arith, ints, zero_up, low) in (
      and_true (int_le (pos 0) n && int_lt n (pos e)) true (between e a b n pa qb low high) refl,
      omega (arith, further),
    )
row_between (e ∷ (f ∷ shape)) [] a b n p q low high = let clash = (both (int_le (pos 0) a && int_lt a (pos e)) false p).1 in cc
row_between (e ∷ shape) (x ∷ before) a b n p q low high =
    let pa = both (int_le (pos 0) x && int_lt x (pos e)) (inside shape (before ++ a ∷ [])) p in
    let qb = both (int_le (pos 0) x && int_lt x (pos e)) (inside shape (before ++ b ∷ [])) q in
    let rest = row_between shape before a b n pa.1 qb.1 low high in
    let sum = rest.1 in (
      and_true (int_le (pos 0) x && int_lt x (pos e)) (inside shape (before ++ n ∷ [])) pa.0 rest.0,
      omega (arith, sum),
    )

placed : (shape : List ℕ) (index : List ℤ) (p : ℕ) → place_in shape index ≡ Some p → (inside shape index ≡ true) × (row_number shape index ≡ p)
placed shape index p h = on (inside shape index) refl h
  where
    on : (b : Bool) → inside shape index ≡ b → (if b then Some (row_number shape index) else None) ≡ Some p → (inside shape index ≡ true) × (row_number shape index ≡ p)
    on true is h = (is, ap or_zero h)
      where
        or_zero : Option ℕ → ℕ
        or_zero None = 0
        or_zero (Some n) = n
    on false is h = cc

-- where the first and the last element of a row are
pub row_placed : (shape : List ℕ) (before : List ℤ) (low high : ℤ) (first last j e : ℕ) → high ≡ low +ℤ pos (e - 1) → place_in shape (before ++ low ∷ []) ≡ Some first → place_in shape (before ++ high ∷ []) ≡ Some last → j < e →
    place_in shape (before ++ (low +ℤ pos j) ∷ []) ≡ Some (first + j)
row_placed shape before low high first last j e is p q less =
    let a = placed shape (before ++ low ∷ []) first p in
    let b = placed shape (before ++ high ∷ []) last q in
    let under : low ≤ℤ (low +ℤ pos j) = omega (arith, ints) in
    let over : (low +ℤ pos j) ≤ℤ high = omega (arith, ints, is, less) in
    let r = row_between shape before low high (low +ℤ pos j) a.0 b.0 under over in
    let gap : unsigned_abs ((low +ℤ pos j) -ℤ low) ≡ j = omega (arith, ints) in
    ap (λ (t : Bool). if t then Some (row_number shape (before ++ (low +ℤ pos j) ∷ [])) else None) r.0 ∙ ap Some (r.1 ∙ (λ i. a.1 i + gap i))

-- ---- one row

-- what holds of the element of each number holds of the row
pub row_in : (P : List ℤ → Type 0) (before : List ℤ) (low : ℤ) (k count : ℕ) → ((j : ℕ) → j < k + count → P (before ++ (low +ℤ pos j) ∷ [])) → All P (rows_behind before ([] ∷ []) (low +ℤ pos k) count)
row_in P before low k zero h = All-nil P
row_in P before low k (suc count) h =
    let next : (low +ℤ pos k) +ℤ pos 1 ≡ low +ℤ pos (suc k) = omega (arith, ints) in
    subst (All P) (sym (rows_next before ([] ∷ []) (low +ℤ pos k) count))
    (All-cons P ((before ++ (low +ℤ pos k) ∷ []) ++ []) (rows_behind before ([] ∷ []) ((low +ℤ pos k) +ℤ pos 1) count)
    (subst P (sym (append_none (before ++ (low +ℤ pos k) ∷ []))) (h k (omega arith)))
    (subst (λ z. All P (rows_behind before ([] ∷ []) z count)) (sym next) (row_in P before low (suc k) count (λ j less. h j (omega (arith, less))))))

-- and the other way
pub row_out : (P : List ℤ → Type 0) (before : List ℤ) (low : ℤ) (k count j : ℕ) → j < count → All P (rows_behind before ([] ∷ []) (low +ℤ pos k) count) → P (before ++ (low +ℤ pos (k + j)) ∷ [])
row_out P before low k zero j less h = absurd (omega (arith, less))
row_out P before low k (suc count) zero less h =
    let same : low +ℤ pos k ≡ low +ℤ pos (k + 0) = omega (arith, ints) in
    subst (λ z. P (before ++ z ∷ [])) same
    (subst P (append_none (before ++ (low +ℤ pos k) ∷ []))
    (All-head P ((before ++ (low +ℤ pos k) ∷ []) ++ []) (rows_behind before ([] ∷ []) ((low +ℤ pos k) +ℤ pos 1) count) (subst (All P) (rows_next before ([] ∷ []) (low +ℤ pos k) count) h)))
row_out P before low k (suc count) (suc j) less h =
    let next : (low +ℤ pos k) +ℤ pos 1 ≡ low +ℤ pos (suc k) = omega (arith, ints) in
    let same : suc k + j ≡ k + suc j = omega arith in
    subst (λ n. P (before ++ (low +ℤ pos n) ∷ [])) same
    (row_out P before low (suc k) count j (omega (arith, less))
    (subst (λ z. All P (rows_behind before ([] ∷ []) z count)) next
    (All-tail P ((before ++ (low +ℤ pos k) ∷ []) ++ []) (rows_behind before ([] ∷ []) ((low +ℤ pos k) +ℤ pos 1) count) (subst (All P) (rows_next before ([] ∷ []) (low +ℤ pos k) count) h))))

-- what is told of an element that has a place
pub told_placed : (memory : Shaped) (container : ℕ) (index : List ℤ) (p : ℕ) → place_in (shape_at memory container) index ≡ Some p →
    told_at memory container index ≡ (Some p, slice_index_or (elements_of (contents_at memory container)) p (pos 0))
told_placed memory container index p is =
    let a = placed (shape_at memory container) index p is in
    λ i. (is i, (value-inside memory container index a.0 ∙ ap (λ n. slice_index_or (elements_of (contents_at memory container)) n (pos 0)) a.1) i)

-- what is told of a row
pub row_is : (memory : Shaped) (container : ℕ) (before : List ℤ) (low : ℤ) (first k count : ℕ) → ((j : ℕ) → j < k + count → place_in (shape_at memory container) (before ++ (low +ℤ pos j) ∷ []) ≡ Some (first + j)) →
    all_told memory container (rows_behind before ([] ∷ []) (low +ℤ pos k) count) ≡ row_told (elements_of (contents_at memory container)) (first + k) count
row_is memory container before low first k zero at = refl
row_is memory container before low first k (suc count) at =
    let next : (low +ℤ pos k) +ℤ pos 1 ≡ low +ℤ pos (suc k) = omega (arith, ints) in
    let after : first + suc k ≡ suc (first + k) = omega arith in
    let here = told_placed memory container (before ++ (low +ℤ pos k) ∷ []) (first + k) (at k (omega arith)) in
    ap (all_told memory container) (rows_next before ([] ∷ []) (low +ℤ pos k) count)
    ∙ (λ i. (ap (told_at memory container) (append_none (before ++ (low +ℤ pos k) ∷ [])) ∙ here) i ∷ all_told memory container (rows_behind before ([] ∷ []) (next i) count))
    ∙ ap (λ l. (Some (first + k), slice_index_or (elements_of (contents_at memory container)) (first + k) (pos 0)) ∷ l)
    (row_is memory container before low first (suc k) count (λ j less. at j (omega (arith, less))) ∙ ap (λ n. row_told (elements_of (contents_at memory container)) n count) after)

-- a row with one element more
pub row_next : (elements : List ℤ) (told next : List (Option ℕ × ℤ)) (place end : ℕ) (value : ℤ) → place < end → value ≡ slice_index_or elements place (pos 0) → next ≡ told ++ (Some place, value) ∷ [] →
    next ++ row_told elements (place + 1) (end - (place + 1)) ≡ told ++ row_told elements place (end - place)
row_next elements told next place end value less is pushed =
    let more : end - place ≡ suc (end - (place + 1)) = omega arith in
    let after : suc place ≡ place + 1 = omega arith in
    ap (λ l. l ++ row_told elements (place + 1) (end - (place + 1))) pushed
    ∙ append_assoc told ((Some place, value) ∷ []) (row_told elements (place + 1) (end - (place + 1)))
    ∙ (λ i. told ++ (Some place, is i) ∷ row_told elements (sym after i) (end - (place + 1)))
    ∙ ap (λ n. told ++ row_told elements place n) (sym more)

-- a row that is all there
pub row_done : (elements : List ℤ) (all told : List (Option ℕ × ℤ)) (place count number end : ℕ) → end ≤ number → end ≡ place + count →
    all ++ row_told elements number (end - number) ≡ told ++ row_told elements place (end - place) → all ≡ told ++ row_told elements place count
row_done elements all told place count number end over is h =
    let none : end - number ≡ 0 = omega (arith, over) in
    let many : end - place ≡ count = omega (arith, is) in
    sym (append_none all) ∙ ap (λ n. all ++ row_told elements number n) (sym none) ∙ h ∙ ap (λ n. told ++ row_told elements place n) many

pub told_pushed : (cuts next : List CutElement) (cut : CutElement) → next ≡ cuts ++ cut ∷ [] → map told next ≡ map told cuts ++ told cut ∷ []
told_pushed cuts next cut is = ap (map told) is ∙ map-append told cuts (cut ∷ [])

pub all_pushed : (P : CutElement → Type 0) (cuts next : List CutElement) (cut : CutElement) → next ≡ cuts ++ cut ∷ [] → All P cuts → P cut → All P next
all_pushed P cuts next cut is h one = subst (All P) (sym is) (all_both P cuts (cut ∷ []) h (All-cons P cut [] one (All-nil P)))

-- ---- elements that are not there, and elements that are

no-some : {A : Type 0} (o : Option A) → o ≡ None → IsSome o → ⊥
no-some None is some = cc
no-some (Some x) is some = cc

-- no element is there without a place
unplaced : (memory : Shaped) (container : ℕ) (index : List ℤ) → place_in (shape_at memory container) index ≡ None → IsSome (element_there memory container index) → ⊥
unplaced memory container index is = no-some (element_there memory container index) (ap (option_and_then (slice_get (elements_of (contents_at memory container)))) is)

there-is : (memory : Shaped) (container : ℕ) (index : List ℤ) (p : ℕ) → place_in (shape_at memory container) index ≡ Some p → element_there memory container index ≡ slice_get (elements_of (contents_at memory container)) p
there-is memory container index p is = ap (option_and_then (slice_get (elements_of (contents_at memory container)))) is

below-some : (xs : List ℤ) (p : ℕ) → IsSome (slice_get xs p) → p < length xs
below-some [] p h = cc
below-some (x ∷ xs) zero h = omega arith
below-some (x ∷ xs) (suc p) h = let rest = below-some xs p h in omega (arith, rest)

some-below : (xs : List ℤ) (p : ℕ) → p < length xs → IsSome (slice_get xs p)
some-below [] p h = absurd (omega (arith, h))
some-below (x ∷ xs) zero h = refl
some-below (x ∷ xs) (suc p) h = some-below xs p (omega (arith, h))

-- ---- the one element at an index

pub one_unplaced : (memory : Shaped) (container : ℕ) (index : List ℤ) → place_in (shape_at memory container) index ≡ None → AreThere memory container (indices_behind index [] []) → ⊥
one_unplaced memory container index is all =
    unplaced memory container index is (subst (λ at. IsSome (element_there memory container at)) (append_none index) (All-head (λ at. IsSome (element_there memory container at)) (index ++ []) [] all))

pub one_absent : (memory : Shaped) (container : ℕ) (index : List ℤ) (p : ℕ) → place_in (shape_at memory container) index ≡ Some p → slice_get (elements_of (contents_at memory container)) p ≡ None →
    AreThere memory container (indices_behind index [] []) → ⊥
one_absent memory container index p is none all =
    no-some (element_there memory container index) (there-is memory container index p is ∙ none)
    (subst (λ at. IsSome (element_there memory container at)) (append_none index) (All-head (λ at. IsSome (element_there memory container at)) (index ++ []) [] all))

pub one_there : (memory : Shaped) (container : ℕ) (index : List ℤ) (p : ℕ) → place_in (shape_at memory container) index ≡ Some p → IsSome (slice_get (elements_of (contents_at memory container)) p) →
    AreThere memory container (indices_behind index [] [])
one_there memory container index p is some =
    All-cons (λ at. IsSome (element_there memory container at)) (index ++ []) []
    (subst (λ at. IsSome (element_there memory container at)) (sym (append_none index)) (subst IsSome (sym (there-is memory container index p is)) some))
    (All-nil (λ at. IsSome (element_there memory container at)))

pub one_told : (memory : Shaped) (container : ℕ) (index : List ℤ) (p : ℕ) → place_in (shape_at memory container) index ≡ Some p →
    row_told (elements_of (contents_at memory container)) p 1 ≡ all_told memory container (indices_behind index [] [])
one_told memory container index p is = ap (λ t. t ∷ []) (sym (ap (told_at memory container) (append_none index) ∙ told_placed memory container index p is))

-- ---- the last row of a window

pub last_none : (before : List ℤ) (s : ℤ) (e : ℕ) → e ≡ 0 → indices_behind before (s ∷ []) (e ∷ []) ≡ []
last_none before s e is = rows_all before s e [] [] ∙ rows_none before ([] ∷ []) (neg_ℤ s) e 0 (omega (arith, is))

last_at : (memory : Shaped) (container : ℕ) (before : List ℤ) (s : ℤ) (e j : ℕ) (n : ℤ) → n ≡ neg_ℤ s +ℤ pos j → j < e → AreThere memory container (indices_behind before (s ∷ []) (e ∷ [])) → IsSome (element_there memory container (before ++ n ∷ []))
last_at memory container before s e j n is less all =
    let same : n ≡ neg_ℤ s +ℤ pos (0 + j) = is ∙ omega (arith, ints) in
    subst (λ z. IsSome (element_there memory container (before ++ z ∷ []))) (sym same)
    (row_out (λ at. IsSome (element_there memory container at)) before (neg_ℤ s) 0 e j less (subst (AreThere memory container) (rows_first before s e [] []) all))

pub last_unplaced : (memory : Shaped) (container : ℕ) (before : List ℤ) (s : ℤ) (e j : ℕ) (n : ℤ) → n ≡ neg_ℤ s +ℤ pos j → j < e → place_in (shape_at memory container) (before ++ n ∷ []) ≡ None →
    AreThere memory container (indices_behind before (s ∷ []) (e ∷ [])) → ⊥
last_unplaced memory container before s e j n is less none all = unplaced memory container (before ++ n ∷ []) none (last_at memory container before s e j n is less all)

pub last_absent : (memory : Shaped) (container : ℕ) (before : List ℤ) (s : ℤ) (e j p : ℕ) (n : ℤ) → n ≡ neg_ℤ s +ℤ pos j → j < e → place_in (shape_at memory container) (before ++ n ∷ []) ≡ Some p →
    slice_get (elements_of (contents_at memory container)) p ≡ None → AreThere memory container (indices_behind before (s ∷ []) (e ∷ [])) → ⊥
last_absent memory container before s e j p n is less at none all =
    no-some (element_there memory container (before ++ n ∷ [])) (there-is memory container (before ++ n ∷ []) p at ∙ none) (last_at memory container before s e j n is less all)

-- where its first and its last element are placed
last_placed : (shape : List ℕ) (before : List ℤ) (s low high : ℤ) (e first last : ℕ) → low ≡ neg_ℤ s +ℤ pos 0 → high ≡ neg_ℤ s +ℤ pos (e - 1) → place_in shape (before ++ low ∷ []) ≡ Some first → place_in shape (before ++ high ∷ []) ≡ Some last →
    (j : ℕ) → j < e → place_in shape (before ++ (neg_ℤ s +ℤ pos j) ∷ []) ≡ Some (first + j)
last_placed shape before s low high e first last l h p q j less =
    let begin : low ≡ neg_ℤ s = l ∙ omega (arith, ints) in
    row_placed shape before (neg_ℤ s) high first last j e h (ap (λ z. place_in shape (before ++ z ∷ [])) (sym begin) ∙ p) q less

pub last_there : (memory : Shaped) (container : ℕ) (before : List ℤ) (s low high : ℤ) (e first last : ℕ) → low ≡ neg_ℤ s +ℤ pos 0 → high ≡ neg_ℤ s +ℤ pos (e - 1) → place_in (shape_at memory container) (before ++ low ∷ []) ≡ Some first →
    place_in (shape_at memory container) (before ++ high ∷ []) ≡ Some last → IsSome (slice_get (elements_of (contents_at memory container)) last) → AreThere memory container (indices_behind before (s ∷ []) (e ∷ []))
last_there memory container before s low high e first last l h p q some =
    subst (AreThere memory container) (sym (rows_first before s e [] []))
    (row_in (λ at. IsSome (element_there memory container at)) before (neg_ℤ s) 0 e (λ j below.
    let less : j < e = omega (arith, below) in
    let here = last_placed (shape_at memory container) before s low high e first last l h p q in
    let end : first + (e - 1) ≡ last = or_zero (sym (here (e - 1) (omega (arith, less))) ∙ ap (λ z. place_in (shape_at memory container) (before ++ z ∷ [])) (sym h) ∙ q) in
    let long = below-some (elements_of (contents_at memory container)) last some in
    subst IsSome (sym (there-is memory container (before ++ (neg_ℤ s +ℤ pos j) ∷ []) (first + j) (here j less)))
    (some-below (elements_of (contents_at memory container)) (first + j) (omega (arith, end, long, less)))))
  where
    or_zero : {a b : ℕ} → Some a ≡ Some b → a ≡ b
    or_zero {a} {b} e = cc

pub last_told : (memory : Shaped) (container : ℕ) (before : List ℤ) (s low high : ℤ) (e first last : ℕ) → low ≡ neg_ℤ s +ℤ pos 0 → high ≡ neg_ℤ s +ℤ pos (e - 1) → place_in (shape_at memory container) (before ++ low ∷ []) ≡ Some first →
    place_in (shape_at memory container) (before ++ high ∷ []) ≡ Some last → row_told (elements_of (contents_at memory container)) first e ≡ all_told memory container (indices_behind before (s ∷ []) (e ∷ []))
last_told memory container before s low high e first last l h p q =
    let none : first + 0 ≡ first = omega arith in
    ap (λ n. row_told (elements_of (contents_at memory container)) n e) (sym none)
    ∙ sym (row_is memory container before (neg_ℤ s) first 0 e (λ j less. last_placed (shape_at memory container) before s low high e first last l h p q j (omega (arith, less))))
    ∙ ap (all_told memory container) (sym (rows_first before s e [] []))

-- ---- at the top

top_is : (before at shift : List ℤ) (places extents : List ℕ) → before ≡ [] → at ≡ shift → places ≡ extents → indices_behind before at places ≡ tuples (map (dim_values []) (spans_within shift extents))
top_is before at shift places extents is a p = (λ i. indices_behind (is i) (a i) (p i)) ∙ behind_none shift extents

pub top_there : (memory : Shaped) (container : ℕ) (before at shift : List ℤ) (places extents : List ℕ) → before ≡ [] → at ≡ shift → places ≡ extents → AreThere memory container (indices_behind before at places) →
    AreThere memory container (tuples (map (dim_values []) (spans_within shift extents)))
top_there memory container before at shift places extents is a p = subst (AreThere memory container) (top_is before at shift places extents is a p)

pub top_told : (memory : Shaped) (container : ℕ) (before at shift : List ℤ) (places extents : List ℕ) (told none : List (Option ℕ × ℤ)) → before ≡ [] → at ≡ shift → places ≡ extents → none ≡ [] →
    told ≡ none ++ all_told memory container (indices_behind before at places) → told ≡ all_told memory container (tuples (map (dim_values []) (spans_within shift extents)))
top_told memory container before at shift places extents told none is a p empty h =
    h ∙ ap (λ l. l ++ all_told memory container (indices_behind before at places)) empty ∙ ap (all_told memory container) (top_is before at shift places extents is a p)

pub top_refused : (memory : Shaped) (container : ℕ) (before at : List ℤ) (places : List ℕ) (window : Window) (e : CutError) → before ≡ [] → at ≡ window.shift → places ≡ window.extents → IsMissing memory container (indices_behind before at places) e →
    IsRefusalOf memory container (Some window) e
top_refused memory container before at places window (Outside other) is a p h =
    (h.0, λ within. h.1 (subst (AreThere memory container) (sym (top_is before at window.shift places window.extents is a p)) within))
top_refused memory container before at places window Memory is a p h = tt

pub none_zero : (xs : List ℤ) (p : ℕ) → slice_get xs p ≡ None → pos 0 ≡ slice_index_or xs p (pos 0)
none_zero [] p h = refl
none_zero (x ∷ xs) zero h = cc
none_zero (x ∷ xs) (suc p) h = none_zero xs p h

-- ---- a window row by row

pub none_left : (before at shift : List ℤ) (extents : List ℕ) → length shift ≡ length extents → length shift ≡ 0 → at ≡ before → indices_behind at [] [] ≡ indices_behind before shift extents
none_left before at [] [] same none is = ap (λ b. indices_behind b [] []) is
none_left before at [] (e ∷ extents) same none is = cc
none_left before at (s ∷ shift) extents same none is = absurd (omega (arith, none))

pub one_left : (before shift inner : List ℤ) (extents rest : List ℕ) (s : ℤ) (e : ℕ) → shift ≡ s ∷ inner → extents ≡ e ∷ rest → length shift ≡ length extents → length inner ≡ 0 → indices_behind before (s ∷ []) (e ∷ []) ≡ indices_behind before shift extents
one_left before shift [] extents [] s e a b same none = λ i. indices_behind before (sym a i) (sym b i)
one_left before shift [] extents (f ∷ rest) s e a b same none = let one = ap length a in let two = ap length b in absurd (omega (arith, one, two, same))
one_left before shift (t ∷ inner) extents rest s e a b same none = absurd (omega (arith, none))

pub tails : (shift inner : List ℤ) (extents rest : List ℕ) (s : ℤ) (e : ℕ) → shift ≡ s ∷ inner → extents ≡ e ∷ rest → length shift ≡ length extents → length inner ≡ length rest
tails shift inner extents rest s e a b same = let one = ap length a in let two = ap length b in omega (arith, one, two, same)

-- the indices of a window, as its rows
pub window_rows : (before shift inner : List ℤ) (extents rest : List ℕ) (s : ℤ) (e : ℕ) → shift ≡ s ∷ inner → extents ≡ e ∷ rest →
    indices_behind before shift extents ≡ rows_left before (tuples (map (dim_values []) (spans_within inner rest))) (neg_ℤ s) e 0
window_rows before shift inner extents rest s e a b = (λ i. indices_behind before (a i) (b i)) ∙ rows_all before s e inner rest

-- an index without its last number
pub last_off : (p a b q : List ℤ) (n : ℤ) (len : ℕ) → p ≡ take (len - 1) q → q ≡ b ++ n ∷ [] → b ≡ a → len ≡ length q → p ≡ a
last_off p a b q n len is full same many =
    let count : length (b ++ n ∷ []) ≡ length b + 1 = more b in
    let long = ap length full in
    let fewer : len - 1 ≡ length b = omega (arith, count, long, many) in
    is ∙ (λ i. take (fewer i) (full i)) ∙ front b ∙ same
  where
    more : (b : List ℤ) → length (b ++ n ∷ []) ≡ length b + 1
    more [] = refl
    more (x ∷ b) = let rest = more b in omega (arith, rest)

    front : (b : List ℤ) → take (length b) (b ++ n ∷ []) ≡ b
    front [] = refl
    front (x ∷ b) = ap (λ l. x ∷ l) (front b)

pub missing_row : (memory : Shaped) (container : ℕ) (one all : List (List ℤ)) (e : CutError) → (AreThere memory container all → AreThere memory container one) → IsMissing memory container one e → IsMissing memory container all e
missing_row memory container one all (Outside other) f h = (h.0, λ there. h.1 (f there))
missing_row memory container one all Memory f h = tt

pub there_all : (memory : Shaped) (container : ℕ) (before : List ℤ) (rests all : List (List ℤ)) (low : ℤ) (extent place : ℕ) → extent ≤ place → all ≡ rows_left before rests low extent 0 →
    (AreThere memory container (rows_left before rests low extent place) → AreThere memory container (rows_left before rests low extent 0)) → AreThere memory container all
there_all memory container before rests all low extent place over is f =
    subst (AreThere memory container) (sym is) (f (subst (AreThere memory container) (sym (rows_none before rests low extent place over)) (All-nil (λ index. IsSome (element_there memory container index)))))

pub told_all : (memory : Shaped) (container : ℕ) (before : List ℤ) (rests all : List (List ℤ)) (low : ℤ) (extent place : ℕ) (so told : List (Option ℕ × ℤ)) → extent ≤ place → all ≡ rows_left before rests low extent 0 →
    told ++ all_told memory container (rows_left before rests low extent place) ≡ so ++ all_told memory container (rows_left before rests low extent 0) → told ≡ so ++ all_told memory container all
told_all memory container before rests all low extent place so told over is h =
    sym (append_none told) ∙ ap (λ l. told ++ all_told memory container l) (sym (rows_none before rests low extent place over)) ∙ h ∙ ap (λ l. so ++ all_told memory container l) (sym is)
