-- Each access is marked by its boxes, and what it may touch has a number in its window.
use Rattle.std.proofs.Common.{◌≡◌, ◌⊎◌, ℕ, ◌<◌, nat_eq, ℤ, pos, neg_ℤ, List, [], ◌∷◌, map, length, Option, Some, None, option_map, Bool, true, false, not, ◌&&◌, if◌then◌else◌, slice_index_or, inl, inr, refl, sym, ◌∙◌, ap, subst, arith}
use Rattle.std.specs.Option.{option_and_then}
use Rattle.std.specs.List.{AllZip, Contains, list_all, list_any}
use Rattle.std.proofs.lemmas.Bool.{eqb-true, eq-eqb, and_parts, lt-ltb, cases_Bool}
use Rattle.std.proofs.lemmas.Int.{ints}
use Rattle.sd_num.specs.declared.resolution.Resolution.{Resolution}
use Rattle.sd_range.specs.Range.{counted_from}
use Rattle.sd_range.specs.Subset.{inside, whole, elements}
use Rattle.sd_range.proofs.Members.{Contains-nil, Contains-first, Contains-later, Contains-cases, Contains-map, Contains-from_map, Contains-flat_map, Contains-from_flat_map, AllZip-map, AllZip-weaker}
use Rattle.sd_range.proofs.SubsetLaws.{inside-each, whole-members, counted-members}
use Rattle.sd_range.proofs.TupleLaws.{each_choice}
use Rattle.sd_pieces.specs.cut.Merged.{Mark, kept, gathered, unused, drained, appended}
use Rattle.sd_graph.specs.ContainerParts.{Containers, container_at, extents_of}
use Rattle.sd_graph.specs.Context.{Reach, found}
use Rattle.sd_graph.specs.Mode.{Mode, Read, Write, Resolve, Push, Take, do_conflict, resolution_number}
use Rattle.sd_graph.specs.RowOrder.{row_number}
use Rattle.sd_graph.proofs.RowNumbers.{row_number_below}
use Rattle.sd_range.specs.Points.{product}
use Rattle.sd_subset.specs.boxes.Box.{IsInBox}
use Rattle.sd_prop.specs.propagation.Accesses.{Access}
use Rattle.sd_race.proofs.cover_lemmas.Joined.{same_resolution}
use Rattle.sd_windows.specs.Windows as windows
use Rattle.sd_windows.specs.Windows.{moved, place_within, numbers_in_window, reach_in_window, HasDimensions}
use Rattle.sd_windows.proofs.WindowNumbers.{tested, window-reach}
use Rattle.sd_cut.specs.declared.window.Window.{Window}
use Rattle.sd_cut.specs.Cells.{subset_within}
use Rattle.sd_cut.specs.Elements.{IsEven}
use Rattle.sd_cut.specs.Windowed.{window_of, window_at, numbers_in, HaveDimensions}
use Rattle.sd_cut.specs.Marked.{MarksElement, MarksStream, AreAccessesMarked}
use Rattle.sd_cut.proofs.WindowOrder.{within-moved}
use Rattle.sd_part.specs.declared.boxes.interval.Interval.{Interval}
use Rattle.sd_part.specs.Boxes.{NumberBox, number_box, IsIn, IsInIntervals}
use Rattle.sd_part.specs.Hulls.{has_index, is_of_elements, hull_of, window_over, has_elements, window_for, AreOfLength, AreEven, AreWindowsFor}
use Rattle.sd_part.specs.Marks.{indices_of, numbers_within, numbers_if, has_identity, none_conflicts, resolution_among, mark_by, NumberMark, numbers_among, marks_of_box, marks_of, is_push, is_take, is_pushed_to, is_taken_from, stream_among, mark_at, mark_if, marking_by}
use Rattle.sd_part.proofs.Intervals.{IsWithinExtent, in-intervals, intervals-length, intervals-within}
use Rattle.sd_part.proofs.HullCovers.{Covers, IfLength, IfWithin, hull-covers, hull-length, hull-within, in-window, window-inside, shifts-length, counts-length}

-- ---- tests of lists

pub any-true : {A : Type 0} (test : A → Bool) (all : List A) (a : A) → Contains all a → test a ≡ true → list_any test all ≡ true
any-true test [] a member passes = absurd (Contains-nil a member)
any-true test (first ∷ all) a member passes = elim (Contains-cases first all a member) [
  | inl is ↦ rw (ap test is ∙ passes) refl
  | inr later ↦ elim (cases_Bool (test first)) [
    | inl passed ↦ rw passed refl
    | inr failed ↦ rw failed (any-true test all a later passes)
  ]
]

all-true : {A : Type 0} (test : A → Bool) (all : List A) (a : A) → list_all test all ≡ true → Contains all a → test a ≡ true
all-true test [] a passes member = absurd (Contains-nil a member)
all-true test (first ∷ all) a passes member =
    let parts = and_parts (test first) (list_all test all) passes in
    elim (Contains-cases first all a member) [ inl is ↦ sym (ap test is) ∙ parts.0 | inr later ↦ all-true test all a parts.1 later ]

-- ---- marks

pub same-number : (n : ℕ) → nat_eq n n ≡ true
same-number n = eq-eqb n n refl

-- where nothing of a container conflicts, no box of it does
pub no-conflict : (boxes : List NumberBox) (box : NumberBox) (mode : Mode) → Contains boxes box → none_conflicts boxes box.container mode ≡ true → do_conflict box.mode mode ≡ false
no-conflict boxes box mode member none =
    on (nat_eq box.container box.container) (do_conflict box.mode mode) (same-number box.container) (all-true (λ (one : NumberBox). not (nat_eq one.container box.container && do_conflict one.mode mode)) boxes box none member)
  where
    on : (a b : Bool) → a ≡ true → not (a && b) ≡ true → b ≡ false
    on true true p q = cc
    on true false p q = refl
    on false b p q = cc

pub by-number : (a b : Resolution) → not (nat_eq (resolution_number a) (resolution_number b)) ≡ false → a ≡ b
by-number a b free = on (nat_eq (resolution_number a) (resolution_number b)) refl free
  where
    on : (t : Bool) → nat_eq (resolution_number a) (resolution_number b) ≡ t → not t ≡ false → a ≡ b
    on true is free = same_resolution a b (eqb-true (resolution_number a) (resolution_number b) is)
    on false is free = cc

-- the mark of another box of its container suits a mode, by what is known of conflicts
suits-by : (mode : Mode) (by : Resolution) (b : Bool) → (b ≡ true → do_conflict mode (Resolve by) ≡ false) → MarksElement mode (mark_by (if b then Some by else None))
suits-by Read by true free = let wrong : true ≡ false = free refl in cc
suits-by Read by false free = refl
suits-by Write by true free = let wrong : true ≡ false = free refl in cc
suits-by Write by false free = refl
suits-by (Resolve own) by true free = inr (ap gathered (sym (by-number own by (free refl))))
suits-by (Resolve own) by false free = inl refl
suits-by Push by b free = tt
suits-by Take by b free = tt

suits-kept : (mode : Mode) → MarksElement mode kept
suits-kept Read = refl
suits-kept Write = refl
suits-kept (Resolve by) = inl refl
suits-kept Push = tt
suits-kept Take = tt

pub suits : (boxes : List NumberBox) (box : NumberBox) → Contains boxes box → (other : Mode) → MarksElement box.mode (mark_by (resolution_among boxes box.container other))
suits boxes box member Read = suits-kept box.mode
suits boxes box member Write = suits-kept box.mode
suits boxes box member (Resolve by) =
    suits-by box.mode by (has_identity by && none_conflicts boxes box.container (Resolve by))
    (λ both. no-conflict boxes box (Resolve by) member (and_parts (has_identity by) (none_conflicts boxes box.container (Resolve by)) both).1)
suits boxes box member Push = suits-kept box.mode
suits boxes box member Take = suits-kept box.mode

-- each mark of a container in the list suits each box of it
marks-suit : (boxes : List NumberBox) (box : NumberBox) → Contains boxes box → (one : NumberMark) → Contains (marks_of boxes) one → one.container ≡ box.container → MarksElement box.mode one.mark
marks-suit boxes box member one marked same =
    let of = Contains-from_flat_map (marks_of_box boxes) boxes one marked in
    let other = of.0 in
    let from = Contains-from_map (λ (number : ℕ). record { container = other.container; number = number; mark = mark_by (resolution_among boxes other.container other.mode) }) (numbers_among boxes other) one of.2 in
    let container : other.container ≡ box.container = ap (λ (m : NumberMark). m.container) from.2 ∙ same in
    subst (MarksElement box.mode) (ap (λ c. mark_by (resolution_among boxes c other.mode)) (sym container) ∙ ap (λ (m : NumberMark). m.mark) from.2) (suits boxes box member other.mode)

-- the mark at a number of the list
at-number : (P : Mark → Type 0) (marks : List NumberMark) (container number : ℕ) (one : NumberMark) → ((m : NumberMark) → Contains marks m → m.container ≡ container → P m.mark) →
    Contains marks one → one.container ≡ container → one.number ≡ number → P (mark_at marks container number)
at-number P [] container number one each member c n = absurd (Contains-nil one member)
at-number P (first ∷ marks) container number one each member c n =
    on (nat_eq first.container container && nat_eq first.number number) refl (λ later. at-number P marks container number one (λ m there. each m (Contains-later first marks m there)) later c n)
  where
    on : (b : Bool) → (nat_eq first.container container && nat_eq first.number number) ≡ b → (Contains marks one → P (mark_at marks container number)) →
        P (if b then first.mark else mark_at marks container number)
    on true is rest = each first (Contains-first first marks) (eqb-true first.container container (and_parts (nat_eq first.container container) (nat_eq first.number number) is).0)
    on false is rest = elim (Contains-cases first marks one member) [
      | inl here ↦ (
          let same : (nat_eq first.container container && nat_eq first.number number) ≡ true =
          rw (eq-eqb first.container container (ap (λ (m : NumberMark). m.container) here ∙ c), eq-eqb first.number number (ap (λ (m : NumberMark). m.number) here ∙ n)) refl in
          cc
          )
      | inr later ↦ rest later
    ]

-- ---- numbers

-- an index of a box is one of its indices in order
index-listed : (intervals : List Interval) (index : List ℤ) → IsInIntervals intervals index → Contains (indices_of intervals) index
index-listed intervals index is = each_choice (map (λ (interval : Interval). counted_from (pos interval.low) (pos 1) interval.count) intervals) index
    (AllZip-map Contains (λ (interval : Interval). counted_from (pos interval.low) (pos 1) interval.count) intervals index
    (AllZip-weaker IsIn (λ (interval : Interval) n. Contains (counted_from (pos interval.low) (pos 1) interval.count) n)
    (λ interval n in'. (counted-members interval.count (pos interval.low) n).1 (in'.low, in'.high)) intervals index is))

-- a box that has an index has one in each dimension
has-index : (intervals : List Interval) (index : List ℤ) → IsInIntervals intervals index → has_index intervals ≡ true
has-index [] index is = refl
has-index (interval ∷ intervals) [] is = absurd is
has-index (interval ∷ intervals) (n ∷ index) is =
    let low = is.0.low in let high = is.0.high in
    let some : 0 < interval.count = omega (arith, ints) in
    rw (lt-ltb 0 interval.count some) (has-index intervals index is.1)

-- the number of the element that is found at an index, where its container has a window
find-number : (containers : Containers) (list : List (Option Window)) (c : ℕ) (w : windows.Window) (index : List ℤ) (element : ℕ) → window_at list c ≡ Some w → found (container_at containers c) index ≡ Some element →
    numbers_in containers list c element ≡ place_within w index
find-number containers list c w index element at is =
    let here = tested (inside (extents_of (container_at containers c)) index) (Some (row_number (extents_of (container_at containers c)) index)) element is in
    let reach = ap (λ (r : Reach). r.find index) (window-reach containers (window_at list) c) in
    sym (ap (option_and_then (numbers_in containers list c)) is)
    ∙ sym reach
    ∙ ap (λ (o : Option windows.Window). (reach_in_window containers c o).find index) at
    ∙ ap (λ b. if b then place_within w index else None) here.0

-- ---- accesses

-- the boxes of a container have its dimensions
boxes-length : (containers : Containers) (values : List ℤ) (accesses : List Access) (c : ℕ) → AreOfLength (length (extents_of (container_at containers c))) c (map (number_box containers values) accesses)
boxes-length containers values accesses c box member same =
    let from = Contains-from_map (number_box containers values) accesses box member in
    let access = from.0 in
    let container : access.container ≡ c = ap (λ (b : NumberBox). b.container) from.2 ∙ same in
    sym (ap (λ (b : NumberBox). length b.intervals) from.2)
    ∙ intervals-length values (extents_of (container_at containers access.container)) access.box
    ∙ ap (λ n. length (extents_of (container_at containers n))) container

-- so they have as many as each other
pub boxes-even : (containers : Containers) (values : List ℤ) (accesses : List Access) → AreEven (map (number_box containers values) accesses)
boxes-even containers values accesses box member other among same =
    boxes-length containers values accesses box.container other among same ∙ sym (boxes-length containers values accesses box.container box member refl)

-- and lie inside it
boxes-within : (containers : Containers) (values : List ℤ) (accesses : List Access) (c : ℕ) (box : NumberBox) → Contains (map (number_box containers values) accesses) box → box.container ≡ c →
    AllZip IsWithinExtent box.intervals (extents_of (container_at containers c))
boxes-within containers values accesses c box member same =
    let from = Contains-from_map (number_box containers values) accesses box member in
    let access = from.0 in
    let container : access.container ≡ c = ap (λ (b : NumberBox). b.container) from.2 ∙ same in
    subst (λ n. AllZip IsWithinExtent box.intervals (extents_of (container_at containers n))) container
    (subst (λ (b : NumberBox). AllZip IsWithinExtent b.intervals (extents_of (container_at containers access.container))) from.2
    (intervals-within values (extents_of (container_at containers access.container)) access.box))

-- where the hull covers an index, an element there has a number in its window
record HasWindow (containers : Containers) (list : List (Option Window)) (boxes : List NumberBox) (c : ℕ) (index : List ℤ) (element : ℕ) : Type 0 where
  window : Window
  for_container : window_for boxes c ≡ Some window
  within : inside window.extents (moved window.shift index) ≡ true
  number : numbers_in containers list c element ≡ Some (row_number window.extents (moved window.shift index))

has-window : (containers : Containers) (list : List (Option Window)) (boxes : List NumberBox) (c count : ℕ) (index : List ℤ) (element : ℕ) → AreWindowsFor boxes list → has_elements boxes c ≡ true → Covers count (hull_of c boxes) index →
    found (container_at containers c) index ≡ Some element → HasWindow containers list boxes c index element
has-window containers list boxes c count index element same touched covers is = on (hull_of c boxes) refl covers
  where
    on : (hull : Option (List Interval)) → hull_of c boxes ≡ hull → Covers count hull index → HasWindow containers list boxes c index element
    on None h none = absurd none
    on (Some hull) h some =
        let w = window_over hull in
        let for_c : window_for boxes c ≡ Some w = ap (λ b. if b then option_map window_over (hull_of c boxes) else None) touched ∙ ap (option_map window_over) h in
        let at : window_at list c ≡ Some (window_of w) = ap (option_map window_of) (same c ∙ for_c) in
        record {
          window = w;
          for_container = for_c;
          within = in-window hull index some.1;
          number = find-number containers list c (window_of w) index element at is ∙ ap (λ b. if b then Some (row_number w.extents (moved w.shift index)) else None) (in-window hull index some.1);
        }

-- the number of an element of a box is one of the box's
box-listed : (boxes : List NumberBox) (box : NumberBox) (w : Window) (index : List ℤ) → is_of_elements box.mode ≡ true → window_for boxes box.container ≡ Some w → IsInIntervals box.intervals index →
    Contains (numbers_among boxes box) (row_number w.extents (moved w.shift index))
box-listed boxes box w index of_elements for_c is =
    let numbers : numbers_among boxes box ≡ numbers_within w box.intervals =
    ap (λ b. if b then numbers_if (window_for boxes box.container) box.intervals else []) of_elements ∙ ap (λ o. numbers_if o box.intervals) for_c in
    subst (λ l. Contains l (row_number w.extents (moved w.shift index))) (sym numbers)
    (Contains-map (λ (i : List ℤ). row_number w.extents (moved w.shift i)) (indices_of box.intervals) index (index-listed box.intervals index is))

-- the mark of an element of a box is in the list
box-marked : (boxes : List NumberBox) (box : NumberBox) (w : Window) (index : List ℤ) → Contains boxes box → is_of_elements box.mode ≡ true → window_for boxes box.container ≡ Some w → IsInIntervals box.intervals index →
    (one : NumberMark) × Contains (marks_of boxes) one × (one.container ≡ box.container) × (one.number ≡ row_number w.extents (moved w.shift index))
box-marked boxes box w index member of_elements for_c is =
    let number = row_number w.extents (moved w.shift index) in
    let mark_of = λ (n : ℕ). let m : NumberMark = record { container = box.container; number = n; mark = mark_by (resolution_among boxes box.container box.mode) } in m in (
      mark_of number,
      Contains-flat_map (marks_of_box boxes) boxes box (mark_of number) member (Contains-map mark_of (numbers_among boxes box) number (box-listed boxes box w index of_elements for_c is)),
      refl,
      refl,
    )

-- the element of a box has a number in its window, which is one of the box's
pub record HasNumber (containers : Containers) (list : List (Option Window)) (boxes : List NumberBox) (box : NumberBox) (element : ℕ) : Type 0 where
  pub window : Window
  pub at : window_at list box.container ≡ Some (window_of window)
  pub number : ℕ
  pub named : numbers_in containers list box.container element ≡ Some number
  pub listed : Contains (numbers_among boxes box) number
  pub below : number < product window.extents

-- an element that an access may touch is marked
element-marked : (containers : Containers) (list : List (Option Window)) (boxes : List NumberBox) (box : NumberBox) (count : ℕ) (index : List ℤ) (element : ℕ) → AreWindowsFor boxes list → Contains boxes box → Covers count (hull_of box.container boxes) index →
    IsInIntervals box.intervals index → found (container_at containers box.container) index ≡ Some element →
    MarksElement box.mode ((marking_by (numbers_in containers list) boxes).element box.container element)
element-marked containers list boxes box count index element same member covers is found_so = on (is_of_elements box.mode) refl
  where
    on : (b : Bool) → is_of_elements box.mode ≡ b → MarksElement box.mode ((marking_by (numbers_in containers list) boxes).element box.container element)
    on true of_elements =
        let touched : has_elements boxes box.container ≡ true =
        any-true (λ (one : NumberBox). nat_eq one.container box.container && is_of_elements one.mode) boxes box member (rw (same-number box.container) of_elements) in
        let has = has-window containers list boxes box.container count index element same touched covers found_so in
        let one = box-marked boxes box has.window index member of_elements has.for_container is in
        subst (λ o. MarksElement box.mode (mark_if (marks_of boxes) box.container o)) (sym has.number)
        (at-number (MarksElement box.mode) (marks_of boxes) box.container (row_number has.window.extents (moved has.window.shift index)) one.0 (marks-suit boxes box member) one.1 one.2 one.3)
    on false no_elements = no-elements box.mode no_elements
      where
        no-elements : (mode : Mode) → is_of_elements mode ≡ false → MarksElement mode ((marking_by (numbers_in containers list) boxes).element box.container element)
        no-elements Read other = cc
        no-elements Write other = cc
        no-elements (Resolve by) other = cc
        no-elements Push other = tt
        no-elements Take other = tt

-- and has a number
element-numbered : (containers : Containers) (list : List (Option Window)) (boxes : List NumberBox) (c count : ℕ) (index : List ℤ) (element : ℕ) → AreWindowsFor boxes list → Covers count (hull_of c boxes) index →
    found (container_at containers c) index ≡ Some element → (number : ℕ) × (numbers_in containers list c element ≡ Some number)
element-numbered containers list boxes c count index element same covers found_so = on (has_elements boxes c) refl
  where
    on : (b : Bool) → has_elements boxes c ≡ b → (number : ℕ) × (numbers_in containers list c element ≡ Some number)
    on true touched = let has = has-window containers list boxes c count index element same touched covers found_so in (row_number has.window.extents (moved has.window.shift index), has.number)
    on false untouched =
        (element, ap (λ (o : Option Window). numbers_in_window (extents_of (container_at containers c)) (option_map window_of o) element) (same c ∙ ap (λ b. if b then option_map window_over (hull_of c boxes) else None) untouched))

-- a stream is marked
stream-marked : (boxes : List NumberBox) (box : NumberBox) → Contains boxes box → MarksStream box.mode (stream_among boxes box.container)
stream-marked boxes box member = on box.mode refl
  where
    appended-or : (a b : Bool) → b ≡ true → ((if a then drained else if b then appended else unused) ≡ drained) ⊎ ((if a then drained else if b then appended else unused) ≡ appended)
    appended-or true b is = inl refl
    appended-or false true is = inr refl
    appended-or false false is = cc

    drained-so : (a b : Bool) → a ≡ true → (if a then drained else if b then appended else unused) ≡ drained
    drained-so true b is = refl
    drained-so false b is = cc

    on : (mode : Mode) → box.mode ≡ mode → MarksStream mode (stream_among boxes box.container)
    on Read is = tt
    on Write is = tt
    on (Resolve by) is = tt
    on Push is = appended-or (is_taken_from boxes box.container) (is_pushed_to boxes box.container)
        (any-true (λ (one : NumberBox). nat_eq one.container box.container && is_push one.mode) boxes box member (rw (same-number box.container) (ap is_push is)))
    on Take is = drained-so (is_taken_from boxes box.container) (is_pushed_to boxes box.container)
        (any-true (λ (one : NumberBox). nat_eq one.container box.container && is_take one.mode) boxes box member (rw (same-number box.container) (ap is_take is)))

-- an index at which an access finds an element is in its box in numbers
access-inside : (containers : Containers) (values : List ℤ) (access : Access) (index : List ℤ) (element : ℕ) → IsInBox values access.box index → found (container_at containers access.container) index ≡ Some element →
    IsInIntervals (number_box containers values access).intervals index
access-inside containers values access index element between is =
    let here = tested (inside (extents_of (container_at containers access.container)) index) (Some (row_number (extents_of (container_at containers access.container)) index)) element is in
    in-intervals values (extents_of (container_at containers access.container)) access.box index (inside-each (extents_of (container_at containers access.container)) index here.0) between

-- and in the hull of its container
access-covered : (containers : Containers) (values : List ℤ) (accesses : List Access) (access : Access) (index : List ℤ) (element : ℕ) → Contains accesses access → IsInBox values access.box index →
    found (container_at containers access.container) index ≡ Some element →
    Covers (length (extents_of (container_at containers access.container))) (hull_of access.container (map (number_box containers values) accesses)) index
access-covered containers values accesses access index element member between is =
    hull-covers (length (extents_of (container_at containers access.container))) access.container (map (number_box containers values) accesses) (number_box containers values access) index
    (boxes-length containers values accesses access.container) (Contains-map (number_box containers values) accesses access member)
    (rw (same-number access.container) (has-index (number_box containers values access).intervals index (access-inside containers values access index element between is)))
    (access-inside containers values access index element between is)

-- each access is marked by the boxes of all
pub accesses-marked : (containers : Containers) (values : List ℤ) (accesses : List Access) (list : List (Option Window)) → AreWindowsFor (map (number_box containers values) accesses) list →
    AreAccessesMarked containers values (numbers_in containers list) (marking_by (numbers_in containers list) (map (number_box containers values) accesses)) accesses
accesses-marked containers values accesses list same access member = record {
  element = λ index element between is. element-marked containers list (map (number_box containers values) accesses) (number_box containers values access) (length (extents_of (container_at containers access.container))) index element
      same (Contains-map (number_box containers values) accesses access member) (access-covered containers values accesses access index element member between is) (access-inside containers values access index element between is) is;
  stream = stream-marked (map (number_box containers values) accesses) (number_box containers values access) (Contains-map (number_box containers values) accesses access member);
  number = λ index element between is. element-numbered containers list (map (number_box containers values) accesses) access.container (length (extents_of (container_at containers access.container))) index element same
      (access-covered containers values accesses access index element member between is) is;
}

-- what an access may touch of elements has a number of its box
pub access-number : (containers : Containers) (values : List ℤ) (accesses : List Access) (list : List (Option Window)) (access : Access) (index : List ℤ) (element : ℕ) → AreWindowsFor (map (number_box containers values) accesses) list →
    Contains accesses access → is_of_elements access.mode ≡ true → IsInBox values access.box index → found (container_at containers access.container) index ≡ Some element →
    HasNumber containers list (map (number_box containers values) accesses) (number_box containers values access) element
access-number containers values accesses list access index element same member of_elements between is =
    let boxes = map (number_box containers values) accesses in
    let box = number_box containers values access in
    let touched : has_elements boxes access.container ≡ true =
    any-true (λ (one : NumberBox). nat_eq one.container access.container && is_of_elements one.mode) boxes box (Contains-map (number_box containers values) accesses access member) (rw (same-number access.container) of_elements) in
    let has = has-window containers list boxes access.container (length (extents_of (container_at containers access.container))) index element same touched (access-covered containers values accesses access index element member between is) is in
    record {
      window = has.window;
      at = ap (option_map window_of) (same access.container ∙ has.for_container);
      number = row_number has.window.extents (moved has.window.shift index);
      named = has.number;
      listed = box-listed boxes box has.window index of_elements has.for_container (access-inside containers values access index element between is);
      below = row_number_below has.window.extents (moved has.window.shift index) has.within;
    }

-- ---- windows

-- each window has as many shifts as extents
pub windows-even : (boxes : List NumberBox) (list : List (Option Window)) → AreWindowsFor boxes list → (c : ℕ) → IsEven (window_at list c)
windows-even boxes list same c = subst (λ (o : Option Window). IsEven (option_map window_of o)) (sym (same c)) (on (has_elements boxes c) (hull_of c boxes))
  where
    on : (b : Bool) (hull : Option (List Interval)) → IsEven (option_map window_of (if b then option_map window_over hull else None))
    on false hull = tt
    on true None = tt
    on true (Some hull) = shifts-length hull ∙ sym (counts-length hull)

-- each window has the dimensions of its container
pub windows-shaped : (containers : Containers) (values : List ℤ) (accesses : List Access) (list : List (Option Window)) → AreWindowsFor (map (number_box containers values) accesses) list → HaveDimensions containers list
windows-shaped containers values accesses list same c =
    subst (λ (o : Option Window). HasDimensions (extents_of (container_at containers c)) (option_map window_of o)) (sym (same c))
    (on (has_elements (map (number_box containers values) accesses) c) (hull_of c (map (number_box containers values) accesses)) (hull-length (length (extents_of (container_at containers c))) c (map (number_box containers values) accesses) (boxes-length containers values accesses c)))
  where
    on : (b : Bool) (hull : Option (List Interval)) → IfLength (length (extents_of (container_at containers c))) hull → HasDimensions (extents_of (container_at containers c)) (option_map window_of (if b then option_map window_over hull else None))
    on false hull long = tt
    on true None long = tt
    on true (Some hull) long = shifts-length hull ∙ long

-- the elements of each window are inside its container
pub windows-inside : (containers : Containers) (values : List ℤ) (accesses : List Access) (list : List (Option Window)) → AreWindowsFor (map (number_box containers values) accesses) list → (c : ℕ) (w : Window) → slice_index_or list c None ≡ Some w → (index : List ℤ) →
    Contains (elements (subset_within w.shift w.extents) []) index → inside (extents_of (container_at containers c)) index ≡ true
windows-inside containers values accesses list same c w at index member =
    on (has_elements (map (number_box containers values) accesses) c) (hull_of c (map (number_box containers values) accesses))
    (hull-within (extents_of (container_at containers c)) c (map (number_box containers values) accesses) (boxes-within containers values accesses c)) (sym (same c) ∙ at)
  where
    on : (b : Bool) (hull : Option (List Interval)) → IfWithin (extents_of (container_at containers c)) hull → (if b then option_map window_over hull else None) ≡ Some w → inside (extents_of (container_at containers c)) index ≡ true
    on false hull within e = cc
    on true None within e = cc
    on true (Some hull) within e =
        let is : window_over hull ≡ w = cc in
        let same_length : length (window_over hull).shift ≡ length (window_over hull).extents =
        shifts-length hull ∙ sym (counts-length hull) in
        let listed : Contains (map (moved (map neg_ℤ (window_over hull).shift)) (whole (window_over hull).extents)) index =
        subst (λ l. Contains l index) (within-moved (window_over hull).shift (window_over hull).extents same_length) (subst (λ (v : Window). Contains (elements (subset_within v.shift v.extents) []) index) (sym is) member) in
        let from = Contains-from_map (moved (map neg_ℤ (window_over hull).shift)) (whole (window_over hull).extents) index listed in
        subst (λ i. inside (extents_of (container_at containers c)) i ≡ true) from.2
        (window-inside hull (extents_of (container_at containers c)) from.0 within ((whole-members (window_over hull).extents from.0).1 from.1))
