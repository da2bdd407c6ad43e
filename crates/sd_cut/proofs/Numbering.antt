-- The elements that were cut have the numbers of their windows.
use Rattle.std.proofs.Common.{◌≡◌, ◌≤◌, ℕ, zero, suc, ◌+◌, ◌*◌, ◌/◌, ◌%◌, ◌<◌, ◌==◌, ℤ, pos, ◌+ℤ◌, neg_ℤ, List, [], ◌∷◌, map, length, Option, Some, None, option_map, slice_get, slice_index_or, Bool, true, false, ◌&&◌, int_le, int_lt, if◌then◌else◌, refl, sym, ◌∙◌, ap, subst, arith, rules}
use Rattle.std.specs.Option.{option_and_then}
use Rattle.std.proofs.Math.Nat.{mod-lt, div-lt_iff_lt-mul}
use Rattle.std.proofs.lemmas.Int.{ints}
use Rattle.std.proofs.lemmas.Nat.{div-add-mod'}
use Rattle.std.proofs.lemmas.Option.{slice_get-map, slice_get_within}
use Rattle.sd_range.specs.Points.{product}
use Rattle.sd_range.specs.Subset.{inside, whole, elements}
use Rattle.sd_range.proofs.TupleLaws.{product-cons}
use Rattle.sd_range.proofs.SubsetLaws.{whole-count}
use Rattle.sd_work.specs.Change.{changed_at}
use Rattle.sd_work.specs.Memory.{Contents, array, stream, elements_of}
use Rattle.sd_graph.specs.RowOrder.{row_number}
use Rattle.sd_graph.specs.ContainerParts.{Containers, container_at, extents_of}
use Rattle.sd_graph.proofs.RowNumbers.{row_number_below, row_number_is_in_row_order}
use Rattle.sd_mem.specs.mem.Shaped.{Shaped, shape_at, contents_at, width_at, place_in, IsHere, IsWhole}
use Rattle.sd_windows.specs.Windows as windows
use Rattle.sd_windows.specs.Windows.{moved, place_within, place_if, numbers_in_window}
use Rattle.sd_windows.proofs.WindowNumbers.{inside-length, tested}
use Rattle.sd_cut.specs.declared.elements.CutElement.{CutElement}
use Rattle.sd_cut.specs.declared.elements.ElementMark.{ElementMark}
use Rattle.sd_cut.specs.declared.window.Window.{Window}
use Rattle.sd_cut.specs.Cells.{subset_within}
use Rattle.sd_cut.specs.Elements.{AreFound, told, told_at, AreOfWindow, AreOfWindows, IsEven, marked, AreNumbered}
use Rattle.sd_cut.specs.Windowed.{window_at, numbers_in}
use Rattle.sd_cut.proofs.WindowOrder.{within-moved}

-- ---- the index of a number

positive : (k e p : ℕ) → k < e * p → 0 < p
positive k e zero h = absurd (omega (arith, h))
positive k e (suc p) h = omega arith

is_within : (a extent : ℕ) → a < extent → (int_le (pos 0) (pos a) && int_lt (pos a) (pos extent)) ≡ true
is_within a extent less = grind (arith, less)

both-true : (a b : Bool) → a ≡ true → b ≡ true → (a && b) ≡ true
both-true true b p q = q
both-true false b p q = p

-- an index that is inside, of this number in row order
index-of : (extents : List ℕ) (k : ℕ) → k < product extents → (index : List ℤ) × (inside extents index ≡ true) × (row_number extents index ≡ k)
index-of [] k less = ([], refl, omega (arith, less))
index-of (extent ∷ extents) k less =
    let rows = product extents in
    let below : k < extent * product extents = subst (λ n. k < n) (product-cons extent extents) less in
    let some : 0 < rows = positive k extent rows below in
    let rest = index-of extents (k % rows) (mod-lt k some) in (
      pos (k / rows) ∷ rest.0,
      both-true (int_le (pos 0) (pos (k / rows)) && int_lt (pos (k / rows)) (pos extent)) (inside extents rest.0) (is_within (k / rows) extent ((div-lt_iff_lt-mul some).1 below)) rest.1,
      ap (λ n. k / rows * rows + n) rest.2 ∙ div-add-mod' k rows,
    )

abbrev index_or : List ℤ → Option (List ℤ) → List ℤ
index_or d None = d
index_or d (Some index) = index

-- the index at a number in row order is inside, and has this number
in-row-order : (extents : List ℕ) (k : ℕ) (index : List ℤ) → slice_get (whole extents) k ≡ Some index → (inside extents index ≡ true) × (row_number extents index ≡ k)
in-row-order extents k index here =
    let less : k < product extents = subst (λ n. k < n) (whole-count extents) (slice_get_within (whole extents) k index here) in
    let of = index-of extents k less in
    let same : of.0 ≡ index = ap (index_or index) (sym (row_number_is_in_row_order extents of.0 of.1) ∙ ap (slice_get (whole extents)) of.2 ∙ here) in
    (subst (λ i. inside extents i ≡ true) same of.1, subst (λ i. row_number extents i ≡ k) same of.2)

-- ---- the number of an element

moved-forth : (shift index : List ℤ) → length index ≡ length shift → moved shift (moved (map neg_ℤ shift) index) ≡ index
moved-forth [] [] h = refl
moved-forth [] (n ∷ index) h = cc
moved-forth (s ∷ shift) [] h = cc
moved-forth (s ∷ shift) (n ∷ index) h =
    let same : s +ℤ (neg_ℤ s +ℤ n) ≡ n = omega (arith, ints) in
    λ i. same i ∷ moved-forth shift index (omega (arith, h)) i

same-number : (n : ℕ) → (n == n) ≡ true
same-number n = search rules

number-at : (shape : List ℕ) (w : windows.Window) (index : List ℤ) → inside shape index ≡ true → numbers_in_window shape (Some w) (row_number shape index) ≡ place_within w index
number-at shape w index h =
    ap (λ o. option_and_then (place_if shape w (row_number shape index)) o) (row_number_is_in_row_order shape index h)
    ∙ ap (λ b. if b then (if row_number shape index == row_number shape index then place_within w index else None) else None) h
    ∙ ap (λ b. if b then place_within w index else None) (same-number (row_number shape index))

abbrev number_or : ℕ → Option ℕ → ℕ
number_or d None = d
number_or d (Some n) = n

mapped-is : {A B : Type 0} (f : A → B) (o : Option A) (y : B) → option_map f o ≡ Some y → (x : A) × (o ≡ Some x) × (f x ≡ y)
mapped-is f None y e = cc
mapped-is f (Some x) y e = (x, refl, ap (or_this y) e)
  where
    or_this : {A : Type 0} → A → Option A → A
    or_this d None = d
    or_this d (Some x) = x

-- elements that were cut stand in an array of these extents where the elements of its window do
abbrev StandIn : (shape : List ℕ) → Option windows.Window → List CutElement → Type 0
StandIn shape None cuts = cuts ≡ []
StandIn shape (Some window) cuts = map (λ (t : CutElement). Some t.place) cuts ≡ map (place_in shape) (elements (subset_within window.shift window.extents) [])

-- an element of a window has its number there
window-number : (shape : List ℕ) (w : windows.Window) (cuts : List CutElement) (k : ℕ) (cut : CutElement) → length w.shift ≡ length w.extents → StandIn shape (Some w) cuts → slice_get cuts k ≡ Some cut →
    numbers_in_window shape (Some w) cut.place ≡ Some k
window-number shape w cuts k cut same stand is =
    let found = mapped-is (place_in shape) (slice_get (elements (subset_within w.shift w.extents) []) k) (Some cut.place) (
    sym (slice_get-map (place_in shape) (elements (subset_within w.shift w.extents) []) k) ∙ ap (λ l. slice_get l k) (sym stand) ∙ slice_get-map (λ (t : CutElement). Some t.place) cuts k ∙ ap (option_map (λ (t : CutElement). Some t.place)) is) in
    let index = found.0 in
    let within = tested (inside shape index) (Some (row_number shape index)) cut.place found.2 in
    let here = mapped-is (moved (map neg_ℤ w.shift)) (slice_get (whole w.extents) k) index (
    sym (slice_get-map (moved (map neg_ℤ w.shift)) (whole w.extents) k) ∙ ap (λ l. slice_get l k) (sym (within-moved w.shift w.extents same)) ∙ found.1) in
    let order = in-row-order w.extents k here.0 here.1 in
    let back : moved w.shift index ≡ here.0 = ap (moved w.shift) (sym here.2) ∙ moved-forth w.shift here.0 (inside-length w.extents here.0 order.0 ∙ sym same) in
    ap (numbers_in_window shape (Some w)) (ap (number_or cut.place) (sym within.1))
    ∙ number-at shape w index within.0
    ∙ ap (λ at. if inside w.extents at then Some (row_number w.extents at) else None) back
    ∙ ap (λ b. if b then Some (row_number w.extents here.0) else None) order.0
    ∙ ap Some order.1

stand-numbered : (containers : Containers) (list : List (Option Window)) (arrays : List (List CutElement)) → ((c : ℕ) → IsEven (window_at list c)) →
    ((c : ℕ) → StandIn (extents_of (container_at containers c)) (window_at list c) (slice_index_or arrays c [])) → AreNumbered (numbers_in containers list) arrays
stand-numbered containers list arrays even stand c k cut is = on (window_at list c) (even c) (stand c)
  where
    on : (o : Option windows.Window) → IsEven o → StandIn (extents_of (container_at containers c)) o (slice_index_or arrays c []) → numbers_in_window (extents_of (container_at containers c)) o cut.place ≡ Some k
    on None e none = let e : None ≡ Some cut = ap (λ l. slice_get l k) (sym none) ∙ is in cc
    on (Some w) e cuts = window-number (extents_of (container_at containers c)) w (slice_index_or arrays c []) k cut e cuts is

-- what is cut of an array stands in it so
of-window-stands : (memory : Shaped) (c : ℕ) (w : Option windows.Window) (cuts : List CutElement) → AreOfWindow memory c w cuts → StandIn (shape_at memory c) w cuts
of-window-stands memory c None cuts h = h
of-window-stands memory c (Some w) cuts h =
    sym (map-both told cuts) ∙ ap (map first_of) h ∙ map-all (told_at memory c) (elements (subset_within w.shift w.extents) [])
  where
    first_of : Option ℕ × ℤ → Option ℕ
    first_of t = t.0

    map-both : (f : CutElement → Option ℕ × ℤ) (xs : List CutElement) → map first_of (map f xs) ≡ map (λ x. (f x).0) xs
    map-both f [] = refl
    map-both f (x ∷ xs) = ap (λ l. (f x).0 ∷ l) (map-both f xs)

    map-all : (f : List ℤ → Option ℕ × ℤ) (xs : List (List ℤ)) → map first_of (map f xs) ≡ map (λ x. (f x).0) xs
    map-all f [] = refl
    map-all f (x ∷ xs) = ap (λ l. (f x).0 ∷ l) (map-all f xs)

pub windows-number : (containers : Containers) (list : List (Option Window)) (memory : Shaped) (arrays : List (List CutElement)) → ((c : ℕ) → IsEven (window_at list c)) →
    ((c : ℕ) (w : windows.Window) → window_at list c ≡ Some w → shape_at memory c ≡ extents_of (container_at containers c)) → AreOfWindows memory (window_at list) arrays → AreNumbered (numbers_in containers list) arrays
windows-number containers list memory arrays even shaped of = stand-numbered containers list arrays even stand
  where
    stand : (c : ℕ) → StandIn (extents_of (container_at containers c)) (window_at list c) (slice_index_or arrays c [])
    stand c = on (window_at list c) refl (of-window-stands memory c (window_at list c) (slice_index_or arrays c []) (of c))
      where
        on : (o : Option windows.Window) → window_at list c ≡ o → StandIn (shape_at memory c) (window_at list c) (slice_index_or arrays c []) → StandIn (extents_of (container_at containers c)) (window_at list c) (slice_index_or arrays c [])
        on None h none = subst (λ o. StandIn (extents_of (container_at containers c)) o (slice_index_or arrays c [])) (sym h) (subst (λ o. StandIn (shape_at memory c) o (slice_index_or arrays c [])) h none)
        on (Some w) h some = subst (λ shape. StandIn shape (window_at list c) (slice_index_or arrays c [])) (shaped c w h) some

-- ---- where they are found

here-count : (shape : List ℕ) (k : Contents) → IsWhole shape k → length (elements_of k) ≡ product shape
here-count shape (array width elements) h = h
here-count shape (stream width values) h = elim h [ ]

-- an element of a window stands below the number of its array's elements
window-below : (memory : Shaped) (c : ℕ) (w : windows.Window) (cuts : List CutElement) (k : ℕ) (cut : CutElement) → AreOfWindow memory c (Some w) cuts → slice_get cuts k ≡ Some cut → cut.place < product (shape_at memory c)
window-below memory c w cuts k cut of is =
    let found = mapped-is (told_at memory c) (slice_get (elements (subset_within w.shift w.extents) []) k) (told cut) (
    sym (slice_get-map (told_at memory c) (elements (subset_within w.shift w.extents) []) k) ∙ ap (λ l. slice_get l k) (sym of) ∙ slice_get-map told cuts k ∙ ap (option_map told) is) in
    let place : place_in (shape_at memory c) found.0 ≡ Some cut.place = ap (λ (t : Option ℕ × ℤ). t.0) found.2 in
    let within = tested (inside (shape_at memory c) found.0) (Some (row_number (shape_at memory c) found.0)) cut.place place in
    subst (λ n. n < product (shape_at memory c)) (ap (number_or cut.place) within.1) (row_number_below (shape_at memory c) found.0 within.0)

pub cut-found : (list : List (Option Window)) (memory later left : Shaped) (arrays : List (List CutElement)) → AreOfWindows memory (window_at list) arrays →
    ((c : ℕ) (w : windows.Window) → window_at list c ≡ Some w → (shape_at memory c ≡ shape_at later c) × IsHere later c × (width_at left c ≡ width_at later c)) →
    ((c : ℕ) → length (slice_index_or arrays c []) ≤ length (elements_of (contents_at left c))) → AreFound arrays left later
cut-found list memory later left arrays of fit room c k cut is = on (window_at list c) refl (of c)
  where
    on : (o : Option windows.Window) → window_at list c ≡ o → AreOfWindow memory c o (slice_index_or arrays c []) →
        (cut.place < length (elements_of (contents_at later c))) × (k < length (elements_of (contents_at left c))) × (width_at left c ≡ width_at later c)
    on None h none = let e : None ≡ Some cut = ap (λ l. slice_get l k) (sym none) ∙ is in cc
    on (Some w) h cuts =
        let here = fit c w h in
        let count : product (shape_at memory c) ≡ length (elements_of (contents_at later c)) = ap product here.0 ∙ sym (here-count (shape_at later c) (contents_at later c) here.1) in
        let below : k < length (slice_index_or arrays c []) = slice_get_within (slice_index_or arrays c []) k cut is in
        let enough = room c in (
          subst (λ n. cut.place < n) count (window-below memory c w (slice_index_or arrays c []) k cut cuts is),
          omega (arith, below, enough),
          here.2,
        )

-- ---- marks

marked-told : (cuts : List CutElement) (n : ℕ) (mark : ElementMark) → map told (changed_at n (marked mark) cuts) ≡ map told cuts
marked-told [] n mark = refl
marked-told (cut ∷ cuts) zero mark = refl
marked-told (cut ∷ cuts) (suc n) mark = ap (λ l. told cut ∷ l) (marked-told cuts n mark)

marked-none : (cuts : List CutElement) (n : ℕ) (mark : ElementMark) → cuts ≡ [] → changed_at n (marked mark) cuts ≡ []
marked-none [] n mark h = refl
marked-none (cut ∷ cuts) n mark h = cc

marked-of-window : (memory : Shaped) (c : ℕ) (w : Option windows.Window) (cuts : List CutElement) (n : ℕ) (mark : ElementMark) → AreOfWindow memory c w cuts → AreOfWindow memory c w (changed_at n (marked mark) cuts)
marked-of-window memory c None cuts n mark h = marked-none cuts n mark h
marked-of-window memory c (Some w) cuts n mark h = marked-told cuts n mark ∙ h

-- a list in which a member was changed has at each number what was there, or that with the change
changed-or-not : (xs : List (List CutElement)) (c d : ℕ) (f : List CutElement → List CutElement) (P : List CutElement → Type 0) → P (slice_index_or xs c []) → P (f (slice_index_or xs c [])) → P (slice_index_or (changed_at d f xs) c [])
changed-or-not [] c d f P p q = p
changed-or-not (x ∷ xs) zero zero f P p q = q
changed-or-not (x ∷ xs) zero (suc d) f P p q = p
changed-or-not (x ∷ xs) (suc c) zero f P p q = p
changed-or-not (x ∷ xs) (suc c) (suc d) f P p q = changed-or-not xs c d f P p q

pub marked-of-windows : (memory : Shaped) (list : List (Option Window)) (arrays : List (List CutElement)) (d n : ℕ) (mark : ElementMark) → AreOfWindows memory (window_at list) arrays →
    AreOfWindows memory (window_at list) (changed_at d (changed_at n (marked mark)) arrays)
marked-of-windows memory list arrays d n mark of c =
    changed-or-not arrays c d (changed_at n (marked mark)) (λ cuts. AreOfWindow memory c (window_at list c) cuts) (of c) (marked-of-window memory c (window_at list c) (slice_index_or arrays c []) n mark (of c))
