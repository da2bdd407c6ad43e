-- A cut that is marked by boxes is marked as their accesses ask.
use Rattle.std.proofs.Common.{◌≡◌, ◌⊎◌, ℕ, zero, suc, ◌<◌, ◌==◌, nat_eq, ℤ, neg_ℤ, List, [], ◌∷◌, map, length, Option, Some, None, option_map, Bool, true, false, ◌&&◌, if◌then◌else◌, slice_get, slice_index_or, inl, inr, refl, sym, ◌∙◌, ap, subst, arith}
use Rattle.std.specs.Bool.{⊤}
use Rattle.std.specs.List.{All, Contains, fold}
use Rattle.std.specs.Option.{option_and_then}
use Rattle.std.proofs.lemmas.List.{length-map}
use Rattle.std.proofs.lemmas.Option.{slice_get_within}
use Rattle.std.proofs.lemmas.Bool.{eq-eqb, and_parts, cases_eq}
use Rattle.sd_num.specs.Resolution.{identity_of}
use Rattle.sd_num.specs.declared.resolution.Resolution.{Resolution}
use Rattle.sd_num.specs.declared.resolution.Resolution.TheVariants.{Sum, Product, Min, Max, And, Or, Xor, Last}
use Rattle.sd_num.specs.declared.width.Width.{Width}
use Rattle.sd_range.proofs.Members.{Contains-nil, Contains-first, Contains-later, Contains-cases, Contains-map}
use Rattle.sd_work.specs.Change.{changed_at}
use Rattle.sd_work.specs.Memory.{look}
use Rattle.sd_mem.specs.mem.Shaped.{Shaped, alone, element, width_at}
use Rattle.sd_range.specs.Points.{product}
use Rattle.sd_range.specs.Subset.{whole, elements}
use Rattle.sd_range.proofs.SubsetLaws.{whole-count}
use Rattle.sd_windows.specs.Windows.{moved}
use Rattle.sd_cut.specs.Cells.{subset_within}
use Rattle.sd_cut.proofs.WindowOrder.{within-moved}
use Rattle.sd_subset.specs.boxes.Box.{IsInBox}
use Rattle.sd_pieces.specs.cut.Merged.{Mark, gathered, StreamMark, drained, appended}
use Rattle.sd_graph.specs.ContainerParts.{Containers, container_at}
use Rattle.sd_graph.specs.Context.{found}
use Rattle.sd_prop.specs.propagation.Accesses.{Access}
use Rattle.sd_windows.specs.Windows as windows
use Rattle.sd_cut.specs.declared.window.Window.{Window}
use Rattle.sd_cut.specs.Windowed.{window_of, window_at, numbers_in}
use Rattle.sd_cut.specs.Marked.{MarksElement, MarksStream, AreAccessesMarked}
use Rattle.sd_graph.specs.Mode.{Mode, Read, Write, Resolve, Push, Take, do_conflict}
use Rattle.sd_cut.specs.declared.elements.CutElement.{CutElement}
use Rattle.sd_cut.specs.declared.elements.ElementMark.{ElementMark}
use Rattle.sd_cut.specs.declared.elements.ElementMark.TheVariants.{Untouched, Kept, Replaced, Gathered}
use Rattle.sd_cut.specs.declared.streams.CutStream.{CutStream}
use Rattle.sd_cut.specs.declared.streams.StreamUse.{StreamUse}
use Rattle.sd_cut.specs.declared.streams.StreamUse.TheVariants.{Unused, Drained, Appended}
use Rattle.sd_cut.specs.declared.turning.ElementLeft.{ElementLeft}
use Rattle.sd_cut.specs.Elements.{cut_at, marked, mark_of, mark_if, told, told_at, AreOfWindow, AreOfWindows, IsUntouched, IsEven}
use Rattle.sd_cut.specs.Streams.{stream_drained, stream_appended, appended_use, stream_mark, stream_mark_if}
use Rattle.sd_cut.specs.Turning.{number_of, are_one, kept_left, gathered_left, gathered_with, gathered_from, gathered_on, gathered_or_kept}
use Rattle.sd_cut.specs.Overlaid.{Overlaid}
use Rattle.sd_cut.specs.Fits.{marking_in}
use Rattle.sd_cut.specs.Using.{turned, turned_if, drained_at, appended_if, is_begun, stream_at, pushed_to}
use Rattle.sd_part.specs.Boxes.{NumberBox, number_box}
use Rattle.sd_part.specs.Hulls.{is_of_elements, AreWindowsFor}
use Rattle.sd_part.specs.Marks.{has_identity, none_conflicts, resolution_among, mark_by, numbers_among, is_take, is_taken_from}
use Rattle.sd_part.specs.Marking.{with_mark, with_marks, with_stream, with_box, with_boxes, IsFresh, AreStreamsCut}
use Rattle.sd_part.proofs.MarkedBoxes.{any-true, same-number, no-conflict, by-number, suits, HasNumber, accesses-marked, access-number}

-- ---- the marks of one container

-- a mark that elements of a container may have, which are gathered so, or else kept
abbrev MayHave : Option Resolution → ElementMark → Type 0
MayHave by Untouched = ⊤
MayHave None Kept = ⊤
MayHave (Some by) Kept = ⊥
MayHave by Replaced = ⊥
MayHave None (Gathered other) = ⊥
MayHave (Some by) (Gathered other) = by ≡ other

-- the mark that they have in the end
abbrev pub IsMarkedSo : Option Resolution → ElementMark → Type 0
IsMarkedSo by Untouched = ⊥
IsMarkedSo None Kept = ⊤
IsMarkedSo (Some by) Kept = ⊥
IsMarkedSo by Replaced = ⊥
IsMarkedSo None (Gathered other) = ⊥
IsMarkedSo (Some by) (Gathered other) = by ≡ other

-- the elements of a container have such marks
abbrev MayAllHave : Option Resolution → (container : ℕ) → List (List CutElement) → Type 0
MayAllHave by container arrays = (number : ℕ) (one : CutElement) → cut_at arrays container number ≡ Some one → MayHave by one.mark

-- an element of it was cut, and is marked in the end
abbrev HasMark : Option Resolution → (container number : ℕ) → List (List CutElement) → Type 0
HasMark by container number arrays = (one : CutElement) × (cut_at arrays container number ≡ Some one) × IsMarkedSo by one.mark

-- ---- one element more

-- what is found where a member was changed
found-changed : {A : Type 0} (i j : ℕ) (f : A → A) (xs : List A) (y : A) → slice_get (changed_at i f xs) j ≡ Some y → (slice_get xs j ≡ Some y) ⊎ ((x : A) × (i ≡ j) × (slice_get xs j ≡ Some x) × (f x ≡ y))
found-changed i j f [] y e = cc
found-changed zero zero f (x ∷ xs) y e = inr (x, refl, refl, cc)
found-changed zero (suc j) f (x ∷ xs) y e = inl e
found-changed (suc i) zero f (x ∷ xs) y e = inl e
found-changed (suc i) (suc j) f (x ∷ xs) y e = elim (found-changed i j f xs y e) [ inl same ↦ inl same | inr (z, at, was, is) ↦ inr (z, ap suc at, was, is) ]

-- what was found is found, changed or not
still-found : {A : Type 0} (i j : ℕ) (f : A → A) (xs : List A) (x : A) → slice_get xs j ≡ Some x → (slice_get (changed_at i f xs) j ≡ Some x) ⊎ ((i ≡ j) × (slice_get (changed_at i f xs) j ≡ Some (f x)))
still-found i j f [] x e = cc
still-found zero zero f (y ∷ xs) x e = inr (refl, cc)
still-found zero (suc j) f (y ∷ xs) x e = inl e
still-found (suc i) zero f (y ∷ xs) x e = inl e
still-found (suc i) (suc j) f (y ∷ xs) x e = elim (still-found i j f xs x e) [ inl same ↦ inl same | inr (at, is) ↦ inr (ap suc at, is) ]

-- the list of a container where that of one was changed
list-changed : (d c : ℕ) (f : List CutElement → List CutElement) (arrays : List (List CutElement)) → f [] ≡ [] →
    (slice_index_or (changed_at d f arrays) c [] ≡ slice_index_or arrays c []) ⊎ ((d ≡ c) × (slice_index_or (changed_at d f arrays) c [] ≡ f (slice_index_or arrays c [])))
list-changed d c f [] none = inl refl
list-changed zero zero f (x ∷ xs) none = inr (refl, refl)
list-changed zero (suc c) f (x ∷ xs) none = inl refl
list-changed (suc d) zero f (x ∷ xs) none = inl refl
list-changed (suc d) (suc c) f (x ∷ xs) none = elim (list-changed d c f xs none) [ inl same ↦ inl same | inr (at, is) ↦ inr (ap suc at, is) ]

-- an element of a number after one was marked
cut-changed : (d m c n : ℕ) (mark : ElementMark) (arrays : List (List CutElement)) (one : CutElement) → cut_at (changed_at d (changed_at m (marked mark)) arrays) c n ≡ Some one →
    (cut_at arrays c n ≡ Some one) ⊎ ((d ≡ c) × (m ≡ n) × (one.mark ≡ mark))
cut-changed d m c n mark arrays one e = elim (list-changed d c (changed_at m (marked mark)) arrays refl) [
  | inl same ↦ inl (ap (λ l. slice_get l n) (sym same) ∙ e)
  | inr (at, is) ↦ elim (found-changed m n (marked mark) (slice_index_or arrays c []) one (ap (λ l. slice_get l n) (sym is) ∙ e)) [
    | inl same ↦ inl same
    | inr (x, here, was, made) ↦ inr (at, here, ap (λ (t : CutElement). t.mark) (sym made))
  ]
]

cut-still : (d m c n : ℕ) (mark : ElementMark) (arrays : List (List CutElement)) (one : CutElement) → cut_at arrays c n ≡ Some one →
    (cut_at (changed_at d (changed_at m (marked mark)) arrays) c n ≡ Some one) ⊎ ((d ≡ c) × (m ≡ n) × (cut_at (changed_at d (changed_at m (marked mark)) arrays) c n ≡ Some (marked mark one)))
cut-still d m c n mark arrays one e = elim (list-changed d c (changed_at m (marked mark)) arrays refl) [
  | inl same ↦ inl (ap (λ l. slice_get l n) same ∙ e)
  | inr (at, is) ↦ elim (still-found m n (marked mark) (slice_index_or arrays c []) one e) [
    | inl same ↦ inl (ap (λ l. slice_get l n) is ∙ same)
    | inr (here, made) ↦ inr (at, here, ap (λ l. slice_get l n) is ∙ made)
  ]
]

-- a member that is there is changed
changed-there : {A : Type 0} (i : ℕ) (f : A → A) (xs : List A) (x : A) → slice_get xs i ≡ Some x → slice_get (changed_at i f xs) i ≡ Some (f x)
changed-there i f [] x e = cc
changed-there zero f (y ∷ xs) x e = let same : y ≡ x = cc in ap (λ z. Some (f z)) same
changed-there (suc i) f (y ∷ xs) x e = changed-there i f xs x e

list-there : {A : Type 0} (d : A) (i : ℕ) (f : A → A) (xs : List A) → f d ≡ d → slice_index_or (changed_at i f xs) i d ≡ f (slice_index_or xs i d)
list-there d i f [] none = sym none
list-there d zero f (x ∷ xs) none = refl
list-there d (suc i) f (x ∷ xs) none = list-there d i f xs none

list-elsewhere : {A : Type 0} (d : A) (i j : ℕ) (f : A → A) (xs : List A) → (i ≡ j → ⊥) → slice_index_or (changed_at i f xs) j d ≡ slice_index_or xs j d
list-elsewhere d i j f [] other = refl
list-elsewhere d zero zero f (x ∷ xs) other = absurd (other refl)
list-elsewhere d zero (suc j) f (x ∷ xs) other = refl
list-elsewhere d (suc i) zero f (x ∷ xs) other = refl
list-elsewhere d (suc i) (suc j) f (x ∷ xs) other = list-elsewhere d i j f xs (λ same. other (ap suc same))

cut-there : (c m : ℕ) (mark : ElementMark) (arrays : List (List CutElement)) (one : CutElement) → cut_at arrays c m ≡ Some one → cut_at (changed_at c (changed_at m (marked mark)) arrays) c m ≡ Some (marked mark one)
cut-there c m mark arrays one e =
    ap (λ l. slice_get l m) (list-there [] c (changed_at m (marked mark)) arrays refl) ∙ changed-there m (marked mark) (slice_index_or arrays c []) one e

-- ---- the new mark

-- what is marked in the end may be marked again
so-may : (by : Option Resolution) (mark : ElementMark) → IsMarkedSo by mark → MayHave by mark
so-may by Untouched h = tt
so-may None Kept h = tt
so-may (Some by) Kept h = h
so-may by Replaced h = h
so-may None (Gathered other) h = h
so-may (Some by) (Gathered other) h = h

identity-there : (by : Resolution) (width : Width) → has_identity by ≡ true → (identity : ℤ) × (identity_of by width ≡ Some identity)
identity-there Sum width h = (_, refl)
identity-there Product width h = (_, refl)
identity-there Min width h = (_, refl)
identity-there Max width h = (_, refl)
identity-there And width h = (_, refl)
identity-there Or width h = (_, refl)
identity-there Xor width h = (_, refl)
identity-there Last width h = cc

-- a resolution by which is gathered has an identity
abbrev HasIdentity : Option Resolution → Type 0
HasIdentity None = ⊤
HasIdentity (Some by) = has_identity by ≡ true

-- what a mark makes of an element
abbrev turn_by : Option Resolution → Width → CutElement → (left : ℤ) → ElementLeft
turn_by None = kept_left
turn_by (Some by) = gathered_left by

gathered-mark : (by : Resolution) (identity : ℤ) (width : Width) (x : CutElement) (left : ℤ) (mark : ElementMark) → x.mark ≡ mark → MayHave (Some by) mark → IsMarkedSo (Some by) (gathered_from by identity width x left).mark
gathered-mark by identity width x left mark is h =
    subst (λ m. IsMarkedSo (Some by) (gathered_on m by identity width x left).mark) (sym is) (on mark is h)
  where
    one : (other : Resolution) (b : Bool) → are_one by other ≡ b → by ≡ other → x.mark ≡ Gathered other → IsMarkedSo (Some by) (gathered_or_kept b width x left).mark
    one other true test same at = subst (IsMarkedSo (Some by)) (sym at) same
    one other false test same at = let wrong : are_one by other ≡ true = ap (λ r. number_of by == number_of r) (sym same) ∙ eq-eqb (number_of by) (number_of by) refl in cc

    on : (m : ElementMark) → x.mark ≡ m → MayHave (Some by) m → IsMarkedSo (Some by) (gathered_on m by identity width x left).mark
    on Untouched at may = refl
    on Kept at may = absurd may
    on Replaced at may = absurd may
    on (Gathered other) at may = one other (are_one by other) refl may at

new-mark : (by : Option Resolution) (width : Width) (x : CutElement) (left : ℤ) → HasIdentity by → MayHave by x.mark → IsMarkedSo by (turn_by by width x left).mark
new-mark None width x left has may = tt
new-mark (Some by) width x left has may =
    let there = identity-there by width has in
    subst (λ o. IsMarkedSo (Some by) (gathered_with o by width x left).mark) (sym there.1) (gathered-mark by there.0 width x left x.mark refl may)

-- ---- what one mark keeps

record Keeps (by : Option Resolution) (c : ℕ) (arrays others : List (List CutElement)) : Type 0 where
  may : MayAllHave by c arrays → MayAllHave by c others
  has : (n : ℕ) → HasMark by c n arrays → HasMark by c n others
  there : (n : ℕ) (one : CutElement) → cut_at arrays c n ≡ Some one → (other : CutElement) × (cut_at others c n ≡ Some other)

keeps-same : (by : Option Resolution) (c : ℕ) (arrays : List (List CutElement)) → Keeps by c arrays arrays
keeps-same by c arrays = record { may = λ h. h; has = λ n h. h; there = λ n one e. (one, e) }

keeps-both : (by : Option Resolution) (c : ℕ) (a b d : List (List CutElement)) → Keeps by c a b → Keeps by c b d → Keeps by c a d
keeps-both by c a b d h k = record {
  may = λ all. k.may (h.may all);
  has = λ n one. k.has n (h.has n one);
  there = λ n one e. let next = h.there n one e in k.there n next.0 next.1;
}

-- a mark as a turn
turned-by : (by : Option Resolution) (d m : ℕ) (cut : Overlaid) → with_mark by d m cut ≡ turned (turn_by by) d m cut
turned-by None d m cut = refl
turned-by (Some by) d m cut = refl

turn-keeps : (by other : Option Resolution) (c d m : ℕ) (cut : Overlaid) → (d ≡ c → (other ≡ by) × HasIdentity by) → Keeps by c cut.arrays (turned (turn_by other) d m cut).arrays
turn-keeps by other c d m cut fits = on (cut_at cut.arrays d m) refl
  where
    on : (o : Option CutElement) → cut_at cut.arrays d m ≡ o → Keeps by c cut.arrays (turned_if (turn_by other) d m o cut).arrays
    on None e = keeps-same by c cut.arrays
    on (Some x) e = record {
      may = λ all n one at. elim (cut-changed d m c n mark cut.arrays one at) [
        | inl same ↦ all n one same
        | inr (here, number, is) ↦ subst (MayHave by) (sym is) (so-may by mark (so here (all m x (ap (λ k. cut_at cut.arrays k m) (sym here) ∙ e))))
      ];
      has = λ n found. elim (cut-still d m c n mark cut.arrays found.0 found.1) [
        | inl same ↦ (found.0, same, found.2)
        | inr (here, number, is) ↦ (
          marked mark found.0,
          is,
          let same : x ≡ found.0 = same-one (sym e ∙ (λ i. cut_at cut.arrays (here i) (number i)) ∙ found.1) in
              so here (subst (λ (t : CutElement). MayHave by t.mark) (sym same) (so-may by found.0.mark found.2)),
        )
      ];
      there = λ n one at. elim (cut-still d m c n mark cut.arrays one at) [
        | inl same ↦ (one, same)
        | inr (here, number, is) ↦ (marked mark one, is)
      ];
    }
      where
        left : ℤ
        left = look (element d m) (alone cut.left)

        mark : ElementMark
        mark = (turn_by other (width_at cut.left d) x (look (element d m) (alone cut.left))).mark

        so : d ≡ c → MayHave by x.mark → IsMarkedSo by (turn_by other (width_at cut.left d) x (look (element d m) (alone cut.left))).mark
        so here may =
            subst (λ (o : Option Resolution). IsMarkedSo by (turn_by o (width_at cut.left d) x (look (element d m) (alone cut.left))).mark) (sym (fits here).0)
            (new-mark by (width_at cut.left d) x (look (element d m) (alone cut.left)) (fits here).1 may)

        same-one : {a b : CutElement} → Some a ≡ Some b → a ≡ b
        same-one e = cc

mark-keeps : (by other : Option Resolution) (c d m : ℕ) (cut : Overlaid) → (d ≡ c → (other ≡ by) × HasIdentity by) → Keeps by c cut.arrays (with_mark other d m cut).arrays
mark-keeps by other c d m cut fits = subst (λ (o : Overlaid). Keeps by c cut.arrays o.arrays) (sym (turned-by other d m cut)) (turn-keeps by other c d m cut fits)

-- the element itself is marked
mark-marks : (by : Option Resolution) (c m : ℕ) (cut : Overlaid) (one : CutElement) → HasIdentity by → MayAllHave by c cut.arrays → cut_at cut.arrays c m ≡ Some one → HasMark by c m (with_mark by c m cut).arrays
mark-marks by c m cut one has may e =
    let mark = (turn_by by (width_at cut.left c) one (look (element c m) (alone cut.left))).mark in
    subst (λ (o : Overlaid). HasMark by c m o.arrays) (sym (turned-by by c m cut ∙ ap (λ o. turned_if (turn_by by) c m o cut) e))
    (marked mark one, cut-there c m mark cut.arrays one e, new-mark by (width_at cut.left c) one (look (element c m) (alone cut.left)) has (may m one e))

-- ---- the marks of a box

marks-keep : (by other : Option Resolution) (c d : ℕ) (numbers : List ℕ) (cut : Overlaid) → (d ≡ c → (other ≡ by) × HasIdentity by) → Keeps by c cut.arrays (with_marks other d numbers cut).arrays
marks-keep by other c d [] cut fits = keeps-same by c cut.arrays
marks-keep by other c d (m ∷ numbers) cut fits =
    keeps-both by c cut.arrays (with_mark other d m cut).arrays (with_marks other d numbers (with_mark other d m cut)).arrays (mark-keeps by other c d m cut fits) (marks-keep by other c d numbers (with_mark other d m cut) fits)

marks-mark : (by : Option Resolution) (c n : ℕ) (numbers : List ℕ) (cut : Overlaid) (one : CutElement) → HasIdentity by → MayAllHave by c cut.arrays → Contains numbers n → cut_at cut.arrays c n ≡ Some one → HasMark by c n (with_marks by c numbers cut).arrays
marks-mark by c n [] cut one has may member e = absurd (Contains-nil n member)
marks-mark by c n (m ∷ numbers) cut one has may member e =
    let first = mark-keeps by by c c m cut (λ same. (refl, has)) in
    elim (Contains-cases m numbers n member) [
      | inl here ↦ (marks-keep by by c c numbers (with_mark by c m cut) (λ same. (refl, has))).has n
          (subst (λ k. HasMark by c k (with_mark by c m cut).arrays) here (mark-marks by c m cut one has may (ap (cut_at cut.arrays c) here ∙ e)))
      | inr later ↦ (let next = first.there n one e in marks-mark by c n numbers (with_mark by c m cut) next.0 has (first.may may) later next.1)
    ]

-- ---- the streams of a box leave the elements

stream-arrays : (boxes : List NumberBox) (d : ℕ) (cut : Overlaid) → (with_stream boxes d cut).arrays ≡ cut.arrays
stream-arrays boxes d cut = on (is_taken_from boxes d) (is_begun (stream_at cut d) (pushed_to cut d))
  where
    on : (a b : Bool) → (if a then drained_at d cut else appended_if b d cut).arrays ≡ cut.arrays
    on true b = refl
    on false true = refl
    on false false = refl

-- ---- all boxes

-- what a box of elements of the same container does is the same
same-by : (boxes : List NumberBox) (one other : NumberBox) (by : Resolution) → Contains boxes one → one.container ≡ other.container → is_of_elements one.mode ≡ true →
    resolution_among boxes other.container other.mode ≡ Some by → resolution_among boxes other.container one.mode ≡ Some by
same-by boxes one other by member same touched is = of-mode one.mode refl (free other.mode is)
  where
    -- nothing of the container conflicts
    free : (mode : Mode) → resolution_among boxes other.container mode ≡ Some by → (has_identity by && none_conflicts boxes other.container (Resolve by)) ≡ true
    free Read e = cc
    free Write e = cc
    free (Resolve r) e = on-test (has_identity r && none_conflicts boxes other.container (Resolve r)) refl e
      where
        on-test : (b : Bool) → (has_identity r && none_conflicts boxes other.container (Resolve r)) ≡ b → (if b then Some r else None) ≡ Some by → (has_identity by && none_conflicts boxes other.container (Resolve by)) ≡ true
        on-test true test e = let own : r ≡ by = cc in ap (λ q. has_identity q && none_conflicts boxes other.container (Resolve q)) (sym own) ∙ test
        on-test false test e = cc
    free Push e = cc
    free Take e = cc

    none : (has_identity by && none_conflicts boxes other.container (Resolve by)) ≡ true → do_conflict one.mode (Resolve by) ≡ false
    none both = no-conflict boxes one (Resolve by) member (ap (λ c. none_conflicts boxes c (Resolve by)) same ∙ (and_parts (has_identity by) (none_conflicts boxes other.container (Resolve by)) both).1)

    of-mode : (mode : Mode) → one.mode ≡ mode → (has_identity by && none_conflicts boxes other.container (Resolve by)) ≡ true → resolution_among boxes other.container mode ≡ Some by
    of-mode Read at both = let wrong : true ≡ false = ap (λ m. do_conflict m (Resolve by)) (sym at) ∙ none both in cc
    of-mode Write at both = let wrong : true ≡ false = ap (λ m. do_conflict m (Resolve by)) (sym at) ∙ none both in cc
    of-mode (Resolve own) at both =
        let is : own ≡ by = by-number own by (ap (λ m. do_conflict m (Resolve by)) (sym at) ∙ none both) in
        ap (λ q. resolution_among boxes other.container (Resolve q)) is ∙ ap (λ b. if b then Some by else None) both
    of-mode Push at both = let wrong : false ≡ true = ap is_of_elements (sym at) ∙ touched in cc
    of-mode Take at both = let wrong : false ≡ true = ap is_of_elements (sym at) ∙ touched in cc

one-resolution : (boxes : List NumberBox) (one other : NumberBox) → Contains boxes one → Contains boxes other → one.container ≡ other.container → is_of_elements one.mode ≡ true → is_of_elements other.mode ≡ true →
    resolution_among boxes one.container one.mode ≡ resolution_among boxes other.container other.mode
one-resolution boxes one other p q same touched others =
    ap (λ c. resolution_among boxes c one.mode) same ∙ on (resolution_among boxes other.container one.mode) (resolution_among boxes other.container other.mode) refl refl
  where
    on : (a b : Option Resolution) → resolution_among boxes other.container one.mode ≡ a → resolution_among boxes other.container other.mode ≡ b → a ≡ b
    on a (Some by) e f = sym e ∙ same-by boxes one other by p same touched f
    on (Some by) None e f =
        let wrong : None ≡ Some by = sym f ∙ ap (λ c. resolution_among boxes c other.mode) (sym same) ∙ same-by boxes other one by q (sym same) others (ap (λ c. resolution_among boxes c one.mode) same ∙ e) in cc
    on None None e f = refl

has-identity : (boxes : List NumberBox) (c : ℕ) (mode : Mode) → HasIdentity (resolution_among boxes c mode)
has-identity boxes c Read = tt
has-identity boxes c Write = tt
has-identity boxes c (Resolve by) = on (has_identity by) (none_conflicts boxes c (Resolve by)) refl
  where
    on : (a b : Bool) → has_identity by ≡ a → HasIdentity (if a && b then Some by else None)
    on true true e = e
    on true false e = tt
    on false b e = tt
has-identity boxes c Push = tt
has-identity boxes c Take = tt

box-keeps : (boxes : List NumberBox) (tracked box : NumberBox) (cut : Overlaid) → Contains boxes tracked → Contains boxes box → is_of_elements tracked.mode ≡ true →
    Keeps (resolution_among boxes tracked.container tracked.mode) tracked.container cut.arrays (with_box boxes cut box).arrays
box-keeps boxes tracked box cut p q touched = on (is_of_elements box.mode) refl
  where
    on : (b : Bool) → is_of_elements box.mode ≡ b →
        Keeps (resolution_among boxes tracked.container tracked.mode) tracked.container cut.arrays
        (if b then with_marks (resolution_among boxes box.container box.mode) box.container (numbers_among boxes box) cut else with_stream boxes box.container cut).arrays
    on true of_elements =
        marks-keep (resolution_among boxes tracked.container tracked.mode) (resolution_among boxes box.container box.mode) tracked.container box.container (numbers_among boxes box) cut
        (λ same. (one-resolution boxes box tracked q p same of_elements touched, has-identity boxes tracked.container tracked.mode))
    on false of_stream =
        subst (Keeps (resolution_among boxes tracked.container tracked.mode) tracked.container cut.arrays) (sym (stream-arrays boxes box.container cut))
        (keeps-same (resolution_among boxes tracked.container tracked.mode) tracked.container cut.arrays)

boxes-keep : (boxes : List NumberBox) (tracked : NumberBox) (some : List NumberBox) (cut : Overlaid) → Contains boxes tracked → ((box : NumberBox) → Contains some box → Contains boxes box) → is_of_elements tracked.mode ≡ true →
    Keeps (resolution_among boxes tracked.container tracked.mode) tracked.container cut.arrays (fold (with_box boxes) cut some).arrays
boxes-keep boxes tracked [] cut p among touched = keeps-same (resolution_among boxes tracked.container tracked.mode) tracked.container cut.arrays
boxes-keep boxes tracked (box ∷ some) cut p among touched =
    keeps-both (resolution_among boxes tracked.container tracked.mode) tracked.container cut.arrays (with_box boxes cut box).arrays (fold (with_box boxes) (with_box boxes cut box) some).arrays
    (box-keeps boxes tracked box cut p (among box (Contains-first box some)) touched)
    (boxes-keep boxes tracked some (with_box boxes cut box) p (λ other member. among other (Contains-later box some other member)) touched)

boxes-mark : (boxes : List NumberBox) (tracked : NumberBox) (some : List NumberBox) (cut : Overlaid) (n : ℕ) (one : CutElement) → Contains boxes tracked → ((box : NumberBox) → Contains some box → Contains boxes box) → is_of_elements tracked.mode ≡ true →
    Contains some tracked → Contains (numbers_among boxes tracked) n → MayAllHave (resolution_among boxes tracked.container tracked.mode) tracked.container cut.arrays → cut_at cut.arrays tracked.container n ≡ Some one →
    HasMark (resolution_among boxes tracked.container tracked.mode) tracked.container n (fold (with_box boxes) cut some).arrays
boxes-mark boxes tracked [] cut n one p among touched member number may e = absurd (Contains-nil tracked member)
boxes-mark boxes tracked (box ∷ some) cut n one p among touched member number may e =
    let by = resolution_among boxes tracked.container tracked.mode in
    let rest = λ (other : NumberBox) (there : Contains some other). among other (Contains-later box some other there) in
    let first = box-keeps boxes tracked box cut p (among box (Contains-first box some)) touched in
    let here : HasMark by tracked.container n (with_box boxes cut tracked).arrays =
    subst (λ b. HasMark by tracked.container n (if b then with_marks by tracked.container (numbers_among boxes tracked) cut else with_stream boxes tracked.container cut).arrays) (sym touched)
    (marks-mark by tracked.container n (numbers_among boxes tracked) cut one (has-identity boxes tracked.container tracked.mode) may number e) in
    elim (Contains-cases box some tracked member) [
      | inl is ↦ (boxes-keep boxes tracked some (with_box boxes cut box) p rest touched).has n (subst (λ (b : NumberBox). HasMark by tracked.container n (with_box boxes cut b).arrays) (sym is) here)
      | inr later ↦ (let next = first.there n one e in boxes-mark boxes tracked some (with_box boxes cut box) n next.0 p rest touched later number (first.may may) next.1)
    ]

-- ---- streams

-- how a stream is used in the end
abbrev Suits : (is_taken : Bool) → StreamUse → Type 0
Suits is_taken Unused = ⊥
Suits is_taken Drained = ⊤
Suits true Appended = ⊥
Suits false Appended = ⊤

abbrev IsThere : (c : ℕ) → Overlaid → Type 0
IsThere c cut = (stream : CutStream) × (stream_at cut c ≡ Some stream)

abbrev IsUsedSo : List NumberBox → (c : ℕ) → Overlaid → Type 0
IsUsedSo boxes c cut = (stream : CutStream) × (stream_at cut c ≡ Some stream) × Suits (is_taken_from boxes c) stream.usage

-- marks of elements leave the streams
mark-streams : (by : Option Resolution) (d m : ℕ) (cut : Overlaid) → (with_mark by d m cut).streams ≡ cut.streams
mark-streams by d m cut = ap (λ (o : Overlaid). o.streams) (turned-by by d m cut) ∙ on (cut_at cut.arrays d m)
  where
    on : (o : Option CutElement) → (turned_if (turn_by by) d m o cut).streams ≡ cut.streams
    on None = refl
    on (Some x) = refl

marks-streams : (by : Option Resolution) (d : ℕ) (numbers : List ℕ) (cut : Overlaid) → (with_marks by d numbers cut).streams ≡ cut.streams
marks-streams by d [] cut = refl
marks-streams by d (m ∷ numbers) cut = marks-streams by d numbers (with_mark by d m cut) ∙ mark-streams by d m cut

-- a stream is used by its own box
own-stream : (boxes : List NumberBox) (d : ℕ) (cut : Overlaid) → IsThere d cut → (stream : CutStream) × (stream_at (with_stream boxes d cut) d ≡ Some stream) × Suits (is_taken_from boxes d) stream.usage
own-stream boxes d cut there = on (is_taken_from boxes d) (is_begun (stream_at cut d) (pushed_to cut d))
  where
    at-it : (f : CutStream → CutStream) → slice_index_or (changed_at d (option_map f) cut.streams) d None ≡ Some (f there.0)
    at-it f = list-there None d (option_map f) cut.streams refl ∙ ap (option_map f) there.1

    appended-suits : (usage : StreamUse) → Suits false (appended_use usage)
    appended-suits Unused = tt
    appended-suits Drained = tt
    appended-suits Appended = tt

    on : (a b : Bool) → (stream : CutStream) × (stream_at (if a then drained_at d cut else appended_if b d cut) d ≡ Some stream) × Suits a stream.usage
    on true b = (stream_drained there.0, at-it stream_drained, tt)
    on false true = (stream_drained there.0, at-it stream_drained, tt)
    on false false = (stream_appended there.0, at-it stream_appended, appended-suits there.0.usage)

other-stream : (boxes : List NumberBox) (d c : ℕ) (cut : Overlaid) → (d ≡ c → ⊥) → stream_at (with_stream boxes d cut) c ≡ stream_at cut c
other-stream boxes d c cut other = on (is_taken_from boxes d) (is_begun (stream_at cut d) (pushed_to cut d))
  where
    on : (a b : Bool) → stream_at (if a then drained_at d cut else appended_if b d cut) c ≡ stream_at cut c
    on true b = list-elsewhere None d c (option_map stream_drained) cut.streams other
    on false true = list-elsewhere None d c (option_map stream_drained) cut.streams other
    on false false = list-elsewhere None d c (option_map stream_appended) cut.streams other

-- what a box leaves of a stream
record KeepsStream (boxes : List NumberBox) (c : ℕ) (cut after : Overlaid) : Type 0 where
  there : IsThere c cut → IsThere c after
  used : IsUsedSo boxes c cut → IsUsedSo boxes c after

same-streams : (boxes : List NumberBox) (c : ℕ) (cut after : Overlaid) → stream_at after c ≡ stream_at cut c → KeepsStream boxes c cut after
same-streams boxes c cut after same = record { there = λ h. (h.0, same ∙ h.1); used = λ h. (h.0, same ∙ h.1, h.2) }

box-stream : (boxes : List NumberBox) (c : ℕ) (cut : Overlaid) (box : NumberBox) → KeepsStream boxes c cut (with_box boxes cut box)
box-stream boxes c cut box = on (is_of_elements box.mode)
  where
    at-stream : (box.container ≡ c) ⊎ (box.container ≡ c → ⊥) → KeepsStream boxes c cut (with_stream boxes box.container cut)
    at-stream (inl same) = record {
      there = λ h. subst (λ d. IsThere d (with_stream boxes box.container cut)) same (let own = own-stream boxes box.container cut (subst (λ d. IsThere d cut) (sym same) h) in (own.0, own.1));
      used = λ h. subst (λ d. IsUsedSo boxes d (with_stream boxes box.container cut)) same (own-stream boxes box.container cut (subst (λ d. IsThere d cut) (sym same) (h.0, h.1)));
    }
    at-stream (inr other) = same-streams boxes c cut (with_stream boxes box.container cut) (other-stream boxes box.container c cut other)

    on : (b : Bool) →
        KeepsStream boxes c cut (if b then with_marks (resolution_among boxes box.container box.mode) box.container (numbers_among boxes box) cut else with_stream boxes box.container cut)
    on true =
        same-streams boxes c cut (with_marks (resolution_among boxes box.container box.mode) box.container (numbers_among boxes box) cut)
        (ap (λ streams. slice_index_or streams c None) (marks-streams (resolution_among boxes box.container box.mode) box.container (numbers_among boxes box) cut))
    on false = at-stream (cases_eq box.container c)

boxes-stream : (boxes : List NumberBox) (c : ℕ) (some : List NumberBox) (cut : Overlaid) → IsUsedSo boxes c cut → IsUsedSo boxes c (fold (with_box boxes) cut some)
boxes-stream boxes c [] cut h = h
boxes-stream boxes c (box ∷ some) cut h = boxes-stream boxes c some (with_box boxes cut box) ((box-stream boxes c cut box).used h)

boxes-use : (boxes : List NumberBox) (tracked : NumberBox) (some : List NumberBox) (cut : Overlaid) → is_of_elements tracked.mode ≡ false → Contains some tracked → IsThere tracked.container cut →
    IsUsedSo boxes tracked.container (fold (with_box boxes) cut some)
boxes-use boxes tracked [] cut of_stream member there = absurd (Contains-nil tracked member)
boxes-use boxes tracked (box ∷ some) cut of_stream member there =
    let here : IsUsedSo boxes tracked.container (with_box boxes cut tracked) =
    subst (λ b. IsUsedSo boxes tracked.container (if b then with_marks (resolution_among boxes tracked.container tracked.mode) tracked.container (numbers_among boxes tracked) cut else with_stream boxes tracked.container cut))
    (sym of_stream) (own-stream boxes tracked.container cut there) in
    elim (Contains-cases box some tracked member) [
      | inl is ↦ boxes-stream boxes tracked.container some (with_box boxes cut box) (subst (λ (b : NumberBox). IsUsedSo boxes tracked.container (with_box boxes cut b)) (sym is) here)
      | inr later ↦ boxes-use boxes tracked some (with_box boxes cut box) of_stream later ((box-stream boxes tracked.container cut box).there there)
    ]

-- ---- what a marked cut marks

marked-so : (by : Option Resolution) (mark : ElementMark) → IsMarkedSo by mark → mark_of mark ≡ mark_by by
marked-so by Untouched h = absurd h
marked-so None Kept h = refl
marked-so (Some by) Kept h = absurd h
marked-so by Replaced h = absurd h
marked-so None (Gathered other) h = absurd h
marked-so (Some by) (Gathered other) h = ap gathered (sym h)

used-so : (boxes : List NumberBox) (box : NumberBox) → Contains boxes box → (usage : StreamUse) → Suits (is_taken_from boxes box.container) usage → MarksStream box.mode (stream_mark usage)
used-so boxes box member usage = on box.mode refl usage
  where
    either : (taken : Bool) (usage : StreamUse) → Suits taken usage → (stream_mark usage ≡ drained) ⊎ (stream_mark usage ≡ appended)
    either taken Unused h = absurd h
    either taken Drained h = inl refl
    either true Appended h = absurd h
    either false Appended h = inr refl

    taken-so : (taken : Bool) (usage : StreamUse) → taken ≡ true → Suits taken usage → stream_mark usage ≡ drained
    taken-so taken Unused is h = absurd h
    taken-so taken Drained is h = refl
    taken-so true Appended is h = absurd h
    taken-so false Appended is h = cc

    on : (mode : Mode) → box.mode ≡ mode → (usage : StreamUse) → Suits (is_taken_from boxes box.container) usage → MarksStream mode (stream_mark usage)
    on Read at usage h = tt
    on Write at usage h = tt
    on (Resolve by) at usage h = tt
    on Push at usage h = either (is_taken_from boxes box.container) usage h
    on Take at usage h =
        taken-so (is_taken_from boxes box.container) usage
        (any-true (λ (one : NumberBox). nat_eq one.container box.container && is_take one.mode) boxes box member (rw (same-number box.container) (ap is_take at))) h

may-untouched : (by : Option Resolution) (mark : ElementMark) → mark ≡ Untouched → MayHave by mark
may-untouched by mark is = subst (MayHave by) (sym is) tt

element-so : (containers : Containers) (list : List (Option Window)) (boxes : List NumberBox) (box : NumberBox) (cut : Overlaid) (element : ℕ) → Contains boxes box → is_of_elements box.mode ≡ true → IsFresh list cut →
    HasNumber containers list boxes box element → MarksElement box.mode ((marking_in (numbers_in containers list) (with_boxes boxes cut)).element box.container element)
element-so containers list boxes box cut element member of_elements fresh has =
    let by = resolution_among boxes box.container box.mode in
    let there = fresh.there box.container has.number (window_of has.window) has.at has.below in
    let found = boxes-mark boxes box boxes cut has.number there.0 member (λ other p. p) of_elements member has.listed (λ n one e. may-untouched by one.mark (fresh.untouched box.container n one e)) there.1 in
    subst (λ o. MarksElement box.mode (mark_if (option_and_then (cut_at (with_boxes boxes cut).arrays box.container) o))) (sym has.named)
    (subst (λ o. MarksElement box.mode (mark_if o)) (sym found.1)
    (subst (MarksElement box.mode) (sym (marked-so by found.0.mark found.2)) (suits boxes box member box.mode)))

-- a cut that is marked by boxes is marked as their accesses ask
pub overlay-marked : (containers : Containers) (values : List ℤ) (accesses : List Access) (list : List (Option Window)) (cut : Overlaid) → AreWindowsFor (map (number_box containers values) accesses) list → IsFresh list cut →
    AreStreamsCut (map (number_box containers values) accesses) cut →
    AreAccessesMarked containers values (numbers_in containers list) (marking_in (numbers_in containers list) (with_boxes (map (number_box containers values) accesses) cut)) accesses
overlay-marked containers values accesses list cut same fresh streams access member = record {
  element = λ index element between is. of-mode (is_of_elements access.mode) refl index element between is;
  stream = of-stream (is_of_elements access.mode) refl;
  number = (accesses-marked containers values accesses list same access member).number;
}
  where
    among : Contains (map (number_box containers values) accesses) (number_box containers values access)
    among = Contains-map (number_box containers values) accesses access member

    no-elements : (mode : Mode) (mark : Mark) → is_of_elements mode ≡ false → MarksElement mode mark
    no-elements Read mark other = cc
    no-elements Write mark other = cc
    no-elements (Resolve by) mark other = cc
    no-elements Push mark other = tt
    no-elements Take mark other = tt

    no-stream : (mode : Mode) (mark : StreamMark) → is_of_elements mode ≡ true → MarksStream mode mark
    no-stream Read mark other = tt
    no-stream Write mark other = tt
    no-stream (Resolve by) mark other = tt
    no-stream Push mark other = cc
    no-stream Take mark other = cc

    of-mode : (b : Bool) → is_of_elements access.mode ≡ b → (index : List ℤ) (element : ℕ) → IsInBox values access.box index → found (container_at containers access.container) index ≡ Some element →
        MarksElement access.mode ((marking_in (numbers_in containers list) (with_boxes (map (number_box containers values) accesses) cut)).element access.container element)
    of-mode true e index element between is =
        element-so containers list (map (number_box containers values) accesses) (number_box containers values access) cut element (Contains-map (number_box containers values) accesses access member) e fresh
        (access-number containers values accesses list access index element same member e between is)
    of-mode false e index element between is = no-elements access.mode ((marking_in (numbers_in containers list) (with_boxes (map (number_box containers values) accesses) cut)).element access.container element) e

    of-stream : (b : Bool) → is_of_elements access.mode ≡ b → MarksStream access.mode ((marking_in (numbers_in containers list) (with_boxes (map (number_box containers values) accesses) cut)).stream access.container)
    of-stream true e = no-stream access.mode ((marking_in (numbers_in containers list) (with_boxes (map (number_box containers values) accesses) cut)).stream access.container) e
    of-stream false e =
        let boxes = map (number_box containers values) accesses in
        let box = number_box containers values access in
        let used = boxes-use boxes box boxes cut e (Contains-map (number_box containers values) accesses access member) (streams box (Contains-map (number_box containers values) accesses access member) e) in
        subst (λ o. MarksStream access.mode (stream_mark_if o)) (sym used.1) (used-so boxes box (Contains-map (number_box containers values) accesses access member) used.0.usage used.2)

-- ---- what was cut is fresh

there-is : {A : Type 0} (xs : List A) (n : ℕ) (x : A) → slice_get xs n ≡ Some x → slice_index_or xs n x ≡ x
there-is [] n x e = cc
there-is (y ∷ xs) zero x e = cc
there-is (y ∷ xs) (suc n) x e = there-is xs n x e

get-below : {A : Type 0} (xs : List A) (n : ℕ) → n < length xs → (x : A) × (slice_get xs n ≡ Some x)
get-below [] n less = absurd (omega arith)
get-below (x ∷ xs) zero less = (x, refl)
get-below (x ∷ xs) (suc n) less = get-below xs n (omega arith)

of-window-count : (memory : Shaped) (c : ℕ) (w : windows.Window) (cuts : List CutElement) → length w.shift ≡ length w.extents → AreOfWindow memory c (Some w) cuts → length cuts ≡ product w.extents
of-window-count memory c w cuts even of =
    sym (length-map cuts told)
    ∙ ap length of
    ∙ length-map (elements (subset_within w.shift w.extents) []) (told_at memory c)
    ∙ ap length (within-moved w.shift w.extents even)
    ∙ length-map (whole w.extents) (moved (map neg_ℤ w.shift))
    ∙ whole-count w.extents

-- what was cut in windows, and nothing touched since, is fresh
pub cut-fresh : (memory : Shaped) (list : List (Option Window)) (cut : Overlaid) → ((c : ℕ) → IsEven (window_at list c)) → ((c : ℕ) → All IsUntouched (slice_index_or cut.arrays c [])) → AreOfWindows memory (window_at list) cut.arrays → IsFresh list cut
cut-fresh memory list cut even untouched of = record {
  untouched = λ c n one e. subst (λ (t : CutElement). t.mark ≡ Untouched) (there-is (slice_index_or cut.arrays c []) n one e) (untouched c n one (slice_get_within (slice_index_or cut.arrays c []) n one e));
  there = λ c n w at less. get-below (slice_index_or cut.arrays c []) n
      (let many = of-window-count memory c w (slice_index_or cut.arrays c []) (subst IsEven at (even c)) (subst (λ o. AreOfWindow memory c o (slice_index_or cut.arrays c [])) at (of c)) in omega (arith, less, many));
}
