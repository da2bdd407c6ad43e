-- A memory that has what boxes touch has what is to be cut for them.
use Rattle.std.proofs.Common.{◌≡◌, inl, inr, ℕ, zero, suc, ◌+◌, ◌<◌, ℤ, List, [], ◌∷◌, map, take, length, nat_eq, Option, Some, None, option_map, IsSome, IsTrue, ◌↔◌, Bool, true, false, if◌then◌else◌, slice_get, slice_index_or, refl, sym, ◌∙◌, ap, subst, arith}
use Rattle.std.specs.List.{AllByRecursion, Contains, filter, fold}
use Rattle.std.specs.Option.{option_and_then}
use Rattle.std.proofs.lemmas.Bool.{eqb-true, and_parts}
use Rattle.std.proofs.lemmas.List.Elements.{All-weaker, All-contains_itself}
use Rattle.sd_range.specs.Points.{product}
use Rattle.sd_range.specs.Subset.{inside, elements}
use Rattle.sd_range.proofs.Members.{Contains-nil, Contains-first, Contains-later, Contains-cases}
use Rattle.sd_work.specs.Memory.{Contents, array, stream, elements_of}
use Rattle.sd_graph.specs.ContainerParts.{Containers, container_at, extents_of}
use Rattle.sd_graph.specs.RowOrder.{row_number}
use Rattle.sd_graph.proofs.RowNumbers.{row_number_below}
use Rattle.sd_prop.specs.propagation.Accesses.{Access}
use Rattle.sd_race.proofs.cover_lemmas.Among.{among-filtered}
use Rattle.sd_mem.specs.mem.Shaped.{Shaped, contents_at, shape_at, IsHere, IsWhole}
use Rattle.sd_cut.specs.declared.window.Window.{Window}
use Rattle.sd_cut.specs.declared.refusal.CutError.TheVariants.{Outside}
use Rattle.sd_cut.specs.Cells.{subset_within}
use Rattle.sd_cut.specs.Cutting.{element_there, IsWithin, IsRefusal}
use Rattle.sd_cut.specs.Windowed.{window_of, window_at}
use Rattle.sd_cut.specs.Overlaid.{Overlaid}
use Rattle.sd_part.specs.declared.boxes.interval.Interval.{Interval}
use Rattle.sd_part.specs.Boxes.{NumberBox, number_box}
use Rattle.sd_part.specs.Hulls.{is_of_elements, has_index, has_index_of, has_elements, with_box, hull_of, window_over, window_for, AreBelow, AreWindowsFor}
use Rattle.sd_part.specs.Cut.{AreArraysOf, AreOfStreams}
use Rattle.sd_part.proofs.MarkedBoxes.{windows-inside}
use Rattle.sd_piece.specs.Held.{HasArray, HasTouched, HasTouchedSo}

no : true ≡ false → ⊥
no e = cc

-- ---- the boxes of a window

-- a box of a container that has an index
record Indexed (c : ℕ) (boxes : List NumberBox) : Type 0 where
  box : NumberBox
  among : Contains boxes box
  indexed : has_index_of c box ≡ true

-- a hull has a box that has an index
hull-has : (c : ℕ) (boxes : List NumberBox) (hull : List Interval) → hull_of c boxes ≡ Some hull → Indexed c boxes
hull-has c boxes hull is = on (filter (has_index_of c) boxes) refl is
  where
    on : (some : List NumberBox) → filter (has_index_of c) boxes ≡ some → fold with_box None some ≡ Some hull → Indexed c boxes
    on [] e h = cc
    on (box ∷ others) e h =
        let is = among-filtered (has_index_of c) boxes box (subst (λ (l : List NumberBox). Contains l box) (sym e) (Contains-first box others)) in
        record { box = box; among = is.0; indexed = is.1 }

-- so has a window, and elements are touched
window-has : (c : ℕ) (boxes : List NumberBox) (w : Window) → window_for boxes c ≡ Some w → (has_elements boxes c ≡ true) × Indexed c boxes
window-has c boxes w is = on (has_elements boxes c) (hull_of c boxes) refl refl is
  where
    on : (b : Bool) (hull : Option (List Interval)) → has_elements boxes c ≡ b → hull_of c boxes ≡ hull → (if b then option_map window_over hull else None) ≡ Some w → (has_elements boxes c ≡ true) × Indexed c boxes
    on false hull e f h = cc
    on true None e f h = cc
    on true (Some hull) e f h = (e, hull-has c boxes hull f)

-- an array that is touched is there
pub array-touched : (containers : Containers) (memory : Shaped) (boxes : List NumberBox) (c : ℕ) (w : Window) → HasTouched containers memory boxes → window_for boxes c ≡ Some w → HasArray (extents_of (container_at containers c)) memory c
array-touched containers memory boxes c w touched is =
    let has = window-has c boxes w is in
    let box = has.1.box in
    let parts = and_parts (nat_eq box.container c) (has_index box.intervals) has.1.indexed in
    let same : box.container ≡ c = eqb-true box.container c parts.0 in
    subst (λ (k : ℕ). HasArray (extents_of (container_at containers k)) memory k) same
    (on box (is_of_elements box.mode) same parts.1 has.0 (touched box has.1.among))
  where
    on : (box : NumberBox) (b : Bool) → box.container ≡ c → has_index box.intervals ≡ true → has_elements boxes c ≡ true → HasTouchedSo b containers memory boxes box →
        HasArray (extents_of (container_at containers box.container)) memory box.container
    on box true same index some h = h index
    on box false same index some h = absurd (no (sym some ∙ subst (λ (k : ℕ). has_elements boxes k ≡ false) same h.1))

-- ---- what a cut asks

pub each-of : {A : Type 0} (P : A → Type 0) (xs : List A) (x : A) → AllByRecursion P xs → Contains xs x → P x
each-of P [] x all member = absurd (Contains-nil x member)
each-of P (y ∷ xs) x all member = elim (Contains-cases y xs x member) [
  | inl first ↦ subst P first all.0
  | inr later ↦ each-of P xs x all.1 later
]

-- the arrays are those of the graph
pub arrays-touched : (containers : Containers) (memory : Shaped) (boxes : List NumberBox) (cut : Overlaid) → AreWindowsFor boxes cut.windows → HasTouched containers memory boxes → AreArraysOf containers memory cut
arrays-touched containers memory boxes cut for_them touched c window at = on (window_for boxes c) refl (ap (option_map window_of) (sym (for_them c)) ∙ at)
  where
    on : (o : Option Window) → window_for boxes c ≡ o → option_map window_of o ≡ Some window → (shape_at memory c ≡ extents_of (container_at containers c)) × IsHere memory c
    on None e h = cc
    on (Some w) e h = let has = array-touched containers memory boxes c w touched e in (has.shape, has.here)

-- the streams are there
pub streams-touched : (containers : Containers) (memory : Shaped) (boxes : List NumberBox) (cut : Overlaid) → AreBelow (length cut.windows) boxes → HasTouched containers memory boxes → AreOfStreams boxes memory cut
streams-touched containers memory boxes cut below touched box member is =
    let has : HasTouchedSo false containers memory boxes box = subst (λ (b : Bool). HasTouchedSo b containers memory boxes box) is (touched box member) in
    (each-of (λ (box : NumberBox). box.container < length cut.windows) boxes box below member, has.0, has.1)

-- ---- nothing of a window is outside

get-below : {A : Type 0} (xs : List A) (n : ℕ) → n < length xs → IsSome (slice_get xs n)
get-below [] n less = absurd (omega (arith, less))
get-below (x ∷ xs) zero less = refl
get-below (x ∷ xs) (suc n) less = get-below xs n (omega (arith, less))

whole-count : (shape : List ℕ) (contents : Contents) → IsWhole shape contents → length (elements_of contents) ≡ product shape
whole-count shape (array width elements) whole = whole
whole-count shape (stream width values) whole = absurd whole

element-here : (memory : Shaped) (c : ℕ) (index : List ℤ) → IsHere memory c → inside (shape_at memory c) index ≡ true → IsSome (element_there memory c index)
element-here memory c index here is =
    let count = whole-count (shape_at memory c) (contents_at memory c) here in
    let below = row_number_below (shape_at memory c) index is in
    subst (λ (b : Bool). IsSome (option_and_then (slice_get (elements_of (contents_at memory c))) (if b then Some (row_number (shape_at memory c) index) else None))) (sym is)
    (get-below (elements_of (contents_at memory c)) (row_number (shape_at memory c) index) (omega (arith, count, below)))

-- each element of a window is there
pub windows-here : (containers : Containers) (values : List ℤ) (accesses : List Access) (memory : Shaped) (list : List (Option Window)) (c : ℕ) →
    AreWindowsFor (map (number_box containers values) accesses) list → HasTouched containers memory (map (number_box containers values) accesses) → IsWithin memory c (window_at list c)
windows-here containers values accesses memory list c for_them touched = on (slice_index_or list c None) refl
  where
    on : (o : Option Window) → slice_index_or list c None ≡ o → IsWithin memory c (option_map window_of o)
    on None at = tt
    on (Some w) at =
        let has : HasArray (extents_of (container_at containers c)) memory c = array-touched containers memory (map (number_box containers values) accesses) c w touched (sym (for_them c) ∙ at) in
        All-weaker (Contains (elements (subset_within w.shift w.extents) [])) (λ index. IsSome (element_there memory c index))
        (λ index member. element-here memory c index has.here
        (subst (λ (shape : List ℕ). inside shape index ≡ true) (sym has.shape) (windows-inside containers values accesses list for_them c w at index member)))
        (elements (subset_within w.shift w.extents) []) (All-contains_itself (elements (subset_within w.shift w.extents) []))

-- so a cut is not refused for one
pub none-outside : (containers : Containers) (values : List ℤ) (accesses : List Access) (memory : Shaped) (list : List (Option Window)) (c : ℕ) →
    AreWindowsFor (map (number_box containers values) accesses) list → HasTouched containers memory (map (number_box containers values) accesses) → IsRefusal memory (window_at list) (Outside c) → ⊥
none-outside containers values accesses memory list c for_them touched refused = refused.0 (windows-here containers values accesses memory list c for_them touched)

-- ---- in a loop

each-suc : {A : Type 0} (P : A → Type 0) (xs : List A) (i : ℕ) (x : A) → i < length xs → x ≡ slice_index_or xs i x → ((y : A) → Contains (take i xs) y → P y) → P x → (y : A) → Contains (take (suc i) xs) y → P y
each-suc P [] i x less is before now y member = absurd (omega (arith, less))
each-suc P (z ∷ xs) zero x less is before now y member = elim (Contains-cases z [] y member) [
  | inl first ↦ subst P (is ∙ first) now
  | inr none ↦ absurd (Contains-nil y none)
]
each-suc P (z ∷ xs) (suc i) x less is before now y member = elim (Contains-cases z (take (suc i) xs) y member) [
  | inl first ↦ subst P first (before z (Contains-first z (take i xs)))
  | inr later ↦ each-suc P xs i x (omega (arith, less)) is (λ other among. before other (Contains-later z (take i xs) other among)) now y later
]

-- what holds of those so far and of the next one holds of one more
pub each-next : {A : Type 0} (P : A → Type 0) (xs : List A) (i : ℕ) (x : A) → i < length xs → x ≡ slice_index_or xs i x → ((y : A) → Contains (take i xs) y → P y) → P x → (y : A) → Contains (take (i + 1) xs) y → P y
each-next P xs i x less is before now y member = let after : i + 1 ≡ suc i = omega arith in each-suc P xs i x less is before now y (subst (λ n. Contains (take n xs) y) after member)

-- the next one is among them
pub is-among : {A : Type 0} (xs : List A) (i : ℕ) (x : A) → i < length xs → x ≡ slice_index_or xs i x → Contains xs x
is-among [] i x less is = absurd (omega (arith, less))
is-among (z ∷ xs) zero x less is = subst (λ y. Contains (z ∷ xs) y) (sym is) (Contains-first z xs)
is-among (z ∷ xs) (suc i) x less is = Contains-later z xs x (is-among xs i x (omega (arith, less)) is)

-- a test that fails where something is not so
pub not-so : {X : Type 0} → (X → ⊥) → IsTrue false ↔ X
not-so not = (λ yes. absurd (no (sym yes)), λ x. absurd (not x))
