-- What is committed of a cut of which one element was used.
use Rattle.std.proofs.Common.{◌≡◌, ◌⊎◌, inl, inr, ℕ, zero, suc, ◌<◌, ℤ, pos, List, [], ◌∷◌, ◌++◌, drop, length, Option, Some, None, option_map, slice_get, refl, sym, ◌∙◌, ap, subst}
use Rattle.std.specs.Option.{option_and_then}
use Rattle.sd_num.specs.Width.{wrapped_to, IsElement}
use Rattle.sd_num.specs.Resolution.{stored}
use Rattle.sd_num.specs.declared.width.Width.{Width}
use Rattle.sd_num.specs.declared.resolution.Resolution.{Resolution}
use Rattle.sd_num.proofs.StoredLemmas.{wrapped_to-element}
use Rattle.sd_work.specs.Memory.{Memory, Memories, elements_of, look, waiting}
use Rattle.sd_work.specs.Change.{Change, write, push, take, nothing, changed_at, written, apply}
use Rattle.sd_work.proofs.Changes.{width-apply, IsElement-written}
use Rattle.sd_pieces.specs.course.Reading.{element_found, stream_found, container_width, apply_all}
use Rattle.sd_pieces.specs.course.Shape.{stack_shape}
use Rattle.sd_pieces.specs.cut.Naming.{Naming, IsOneToOne}
use Rattle.sd_pieces.specs.cut.Merged.{untouched, unused, outermost, Marking, IsMerged, AreElementsOfWidth}
use Rattle.sd_pieces.proofs.course_lemmas.Readings.{at, if_found, unchanged, same_found, or_default, effect_on, element-changed, stream-changed, look-found, waiting-found}
use Rattle.sd_pieces.proofs.course_lemmas.Shapes.{shape-after}
use Rattle.sd_pieces.proofs.cut_lemmas.NamedMemories.{same_or_two, at-same, at-other}
use Rattle.sd_pieces.proofs.cut_lemmas.Merging.{at-nothing, at-within, effects_on, element-after, WritesSo, write-effect}
use Rattle.sd_pieces.proofs.cut_lemmas.OneMerged.{one-merged}
use Rattle.sd_mem.specs.mem.Shaped.{Shaped, alone, changed, contents_at, element, width_at}
use Rattle.sd_cut.specs.declared.elements.CutElement.{CutElement}
use Rattle.sd_cut.specs.declared.elements.ElementMark.{ElementMark}
use Rattle.sd_cut.specs.declared.elements.ElementMark.TheVariants.{Untouched, Kept, Replaced, Gathered}
use Rattle.sd_cut.specs.declared.turning.ElementLeft.{ElementLeft}
use Rattle.sd_cut.specs.Elements.{all_changed, all_effects, cut_at, marked, mark_of, mark_if, marking_of, AreNumbered}
use Rattle.sd_cut.specs.Fits.{Fits}
use Rattle.sd_cut.specs.Streams.{all_pushes, all_takes, stream_becomes}
use Rattle.sd_cut.specs.Turning.{sees_by, kept_left}
use Rattle.sd_cut.specs.Using.{seen_at, seen_if, with_element, turned, turned_if, stream_at, effects, committed, Agrees}
use Rattle.sd_cut.specs.Overlaid.{Overlaid}
use Rattle.sd_cut.proofs.Performing.{alone-changed}
use Rattle.sd_cut.proofs.Merging.{stands, Stands, marked_by, untouched-stays, found-there, kept-is}
use Rattle.sd_cut.proofs.Committed.{streamed, committed-is, streamed-element, width-changed, committed-stream}
use Rattle.sd_overlay.proofs.Turns.{TurnsTo}

pub same-some : {A : Type 0} (x y : A) → Some x ≡ Some y → x ≡ y
same-some x y e = cc

-- ---- one element is marked

get-own : (m : ElementMark) (n : ℕ) (cuts : List CutElement) → slice_get (changed_at n (marked m) cuts) n ≡ option_map (marked m) (slice_get cuts n)
get-own m n [] = refl
get-own m zero (one ∷ cuts) = refl
get-own m (suc n) (one ∷ cuts) = get-own m n cuts

get-other : (m : ElementMark) (n k : ℕ) (cuts : List CutElement) → (n ≡ k → ⊥) → slice_get (changed_at n (marked m) cuts) k ≡ slice_get cuts k
get-other m n k [] two = refl
get-other m zero zero (one ∷ cuts) two = absurd (two refl)
get-other m zero (suc k) (one ∷ cuts) two = refl
get-other m (suc n) zero (one ∷ cuts) two = refl
get-other m (suc n) (suc k) (one ∷ cuts) two = get-other m n k cuts (λ e. two (ap suc e))

cut-own : (m : ElementMark) (c n : ℕ) (arrays : List (List CutElement)) → cut_at (changed_at c (changed_at n (marked m)) arrays) c n ≡ option_map (marked m) (cut_at arrays c n)
cut-own m c n [] = refl
cut-own m zero n (cuts ∷ arrays) = get-own m n cuts
cut-own m (suc c) n (cuts ∷ arrays) = cut-own m c n arrays

cut-other : (m : ElementMark) (c n d k : ℕ) (arrays : List (List CutElement)) → (c ≡ d → n ≡ k → ⊥) → cut_at (changed_at c (changed_at n (marked m)) arrays) d k ≡ cut_at arrays d k
cut-other m c n d k [] two = refl
cut-other m zero n zero k (cuts ∷ arrays) two = get-other m n k cuts (two refl)
cut-other m zero n (suc d) k (cuts ∷ arrays) two = refl
cut-other m (suc c) n zero k (cuts ∷ arrays) two = refl
cut-other m (suc c) n (suc d) k (cuts ∷ arrays) two = cut-other m c n d k arrays (λ e. two (ap suc e))

-- each element is the one that was marked, or another one, which is as it was
abbrev IsOwn : (m : ElementMark) (c n d k : ℕ) (arrays : List (List CutElement)) → Type 0
IsOwn m c n d k arrays = ((c ≡ d) × (n ≡ k)) ⊎ ((c ≡ d → n ≡ k → ⊥) × (cut_at (changed_at c (changed_at n (marked m)) arrays) d k ≡ cut_at arrays d k))

own-or-other : (m : ElementMark) (c n d k : ℕ) (arrays : List (List CutElement)) → IsOwn m c n d k arrays
own-or-other m c n d k arrays = on (same_or_two c d) (same_or_two n k)
  where
    on : (c ≡ d) ⊎ (c ≡ d → ⊥) → (n ≡ k) ⊎ (n ≡ k → ⊥) → IsOwn m c n d k arrays
    on (inl p) (inl q) = inl (p, q)
    on (inl p) (inr two) = inr (λ r s. two s, cut-other m c n d k arrays (λ r s. two s))
    on (inr two) q = inr (λ r s. two r, cut-other m c n d k arrays (λ r s. two r))

-- the marked element's place and what it was
marked-place : (m : ElementMark) (o : Option CutElement) (one : CutElement) → option_map (marked m) o ≡ Some one → (old : CutElement) × (o ≡ Some old) × (old.place ≡ one.place)
marked-place m None one e = cc
marked-place m (Some old) one e = (old, refl, ap (λ (t : CutElement). t.place) (same-some (marked m old) one e))

there-before : (m : ElementMark) (c n d k : ℕ) (arrays : List (List CutElement)) (one : CutElement) → cut_at (changed_at c (changed_at n (marked m)) arrays) d k ≡ Some one → (old : CutElement) × (cut_at arrays d k ≡ Some old) × (old.place ≡ one.place)
there-before m c n d k arrays one at_so = on (own-or-other m c n d k arrays)
  where
    on : IsOwn m c n d k arrays → (old : CutElement) × (cut_at arrays d k ≡ Some old) × (old.place ≡ one.place)
    on (inl same) =
        let found = marked-place m (cut_at arrays c n) one (sym (cut-own m c n arrays) ∙ (λ i. cut_at (changed_at c (changed_at n (marked m)) arrays) (same.0 i) (same.1 i)) ∙ at_so) in
        (found.0, (λ i. cut_at arrays (sym same.0 i) (sym same.1 i)) ∙ found.1, found.2)
    on (inr other) = (one, sym other.1 ∙ at_so, refl)

numbered-marked : (naming : Naming) (m : ElementMark) (c n : ℕ) (arrays : List (List CutElement)) → AreNumbered naming arrays → AreNumbered naming (changed_at c (changed_at n (marked m)) arrays)
numbered-marked naming m c n arrays numbered d k one at_so =
    let old = there-before m c n d k arrays one at_so in
    ap (naming d) (sym old.2) ∙ numbered d k old.0 old.1

-- ---- what is committed of an element

module _ (naming : Naming) (cut : Overlaid) (memory : Shaped) (numbered : AreNumbered naming cut.arrays) (one_to_one : IsOneToOne naming) where
  streamed-wide : (c : ℕ) → width_at (streamed cut memory) c ≡ width_at memory c
  streamed-wide c = width-changed (all_pushes 0 cut.left cut.streams ++ all_takes 0 cut.streams) c memory

  pub element-committed : (c k : ℕ) (one : CutElement) → cut_at cut.arrays c k ≡ Some one →
      element_found (outermost c one.place) (alone (committed cut memory)) ≡ if_found (marked_by (width_at memory c) one.mark (look (element c k) (alone cut.left))) (element_found (outermost c one.place) (alone memory))
  element-committed c k one at_so =
      ap (λ (m : Shaped). element_found (outermost c one.place) (alone m)) (committed-is cut memory) ∙ on (stands naming cut.arrays cut.left (streamed cut memory) numbered one_to_one c one.place)
    where
      named : naming c one.place ≡ Some k
      named = numbered c k one at_so

      mark_so : (marking_of naming cut.arrays).element c one.place ≡ mark_of one.mark
      mark_so = ap (λ (n : Option ℕ). mark_if (option_and_then (cut_at cut.arrays c) n)) named ∙ ap mark_if at_so

      on : Stands naming cut.arrays cut.left (streamed cut memory) c one.place →
          element_found (outermost c one.place) (alone (all_changed (all_effects 0 cut.left cut.arrays) (streamed cut memory)))
          ≡ if_found (marked_by (width_at memory c) one.mark (look (element c k) (alone cut.left))) (element_found (outermost c one.place) (alone memory))
      on (inl h) =
          h.1
          ∙ streamed-element cut memory c one.place
          ∙ unchanged (marked_by (width_at memory c) one.mark (look (element c k) (alone cut.left)))
          (untouched-stays (width_at memory c) one.mark (look (element c k) (alone cut.left)) (sym mark_so ∙ h.0)) (element_found (outermost c one.place) (alone memory))
      on (inr h) =
          let same : h.0 ≡ k = same-some h.0 k (sym h.2 ∙ named) in
          let same_one : h.1 ≡ one = same-some h.1 one (sym h.3 ∙ ap (cut_at cut.arrays c) same ∙ at_so) in
          h.6
          ∙ (λ i. if_found (marked_by (streamed-wide c i) (same_one i).mark (look (element c (same i)) (alone cut.left))) (streamed-element cut memory c one.place i))

  pub element-uncut : (c e : ℕ) → ((k : ℕ) (one : CutElement) → cut_at cut.arrays c k ≡ Some one → one.place ≡ e → ⊥) → element_found (outermost c e) (alone (committed cut memory)) ≡ element_found (outermost c e) (alone memory)
  element-uncut c e never = ap (λ (m : Shaped). element_found (outermost c e) (alone m)) (committed-is cut memory) ∙ on (stands naming cut.arrays cut.left (streamed cut memory) numbered one_to_one c e)
    where
      on : Stands naming cut.arrays cut.left (streamed cut memory) c e → element_found (outermost c e) (alone (all_changed (all_effects 0 cut.left cut.arrays) (streamed cut memory))) ≡ element_found (outermost c e) (alone memory)
      on (inl h) = h.1 ∙ streamed-element cut memory c e
      on (inr h) = absurd (never h.0 h.1 h.3 h.4)

-- an element was cut or not
abbrev pub IsCutOrNot : List (List CutElement) → (c e : ℕ) → Type 0
IsCutOrNot arrays c e = ((k : ℕ) × (one : CutElement) × (cut_at arrays c k ≡ Some one) × (one.place ≡ e)) ⊎ ((k : ℕ) (one : CutElement) → cut_at arrays c k ≡ Some one → one.place ≡ e → ⊥)

pub cut-or-not : (naming : Naming) (arrays : List (List CutElement)) → AreNumbered naming arrays → IsOneToOne naming → (c e : ℕ) → IsCutOrNot arrays c e
cut-or-not naming arrays numbered one_to_one c e = by-number (naming c e) refl
  where
    not-none : {A : Type 0} (x : A) → Some x ≡ None → ⊥
    not-none x h = cc

    by-cut : (k : ℕ) → naming c e ≡ Some k → (o : Option CutElement) → cut_at arrays c k ≡ o → IsCutOrNot arrays c e
    by-cut k named None is =
        inr (λ j one at_so place. not-none one (sym at_so ∙ ap (cut_at arrays c) (same-some j k (sym (numbered c j one at_so) ∙ ap (naming c) place ∙ named)) ∙ is))
    by-cut k named (Some one) is = inl (k, one, is, one_to_one c one.place e k (numbered c k one is) named)

    by-number : (o : Option ℕ) → naming c e ≡ o → IsCutOrNot arrays c e
    by-number None named = inr (λ j one at_so place. not-none j (sym (numbered c j one at_so) ∙ ap (naming c) place ∙ named))
    by-number (Some k) named = by-cut k named (cut_at arrays c k) refl

-- ---- a value that is written to what is left

pub one-change : (change : Change) (left : Shaped) → alone (changed change left) ≡ apply change (alone left)
one-change change left = alone-changed (change ∷ []) left

width-written : (change : Change) (left : Shaped) (c : ℕ) → width_at (changed change left) c ≡ width_at left c
width-written change left c = ap (container_width 0 c) (one-change change left) ∙ width-apply 0 c change (alone left)

pub element-written : (change : Change) (left : Shaped) (c k : ℕ) → element_found (outermost c k) (alone (changed change left)) ≡ if_found (effect_on (width_at left c) 0 c k change) (element_found (outermost c k) (alone left))
element-written change left c k = ap (element_found (outermost c k)) (one-change change left) ∙ element-changed 0 c k change (alone left)

at-two : (d c p e : ℕ) (f : ℤ → ℤ) (x : ℤ) → (d ≡ c → p ≡ e → ⊥) → at d c (at p e f) x ≡ x
at-two d c p e f x two = on (same_or_two d c)
  where
    on : (d ≡ c) ⊎ (d ≡ c → ⊥) → at d c (at p e f) x ≡ x
    on (inl q) = at-same d c q (at p e f) x ∙ at-other p e (two q) f x
    on (inr m) = at-other d c m (at p e f) x

at-both : (d c p e : ℕ) (f : ℤ → ℤ) (x : ℤ) → d ≡ c → p ≡ e → at d c (at p e f) x ≡ f x
at-both d c p e f x q r = at-same d c q (at p e f) x ∙ at-same p e r f x

written-own : (left : Shaped) (c k : ℕ) (v : ℤ) → k < length (elements_of (contents_at left c)) → look (element c k) (alone (changed (write (element c k) None v) left)) ≡ wrapped_to (width_at left c) v
written-own left c k v less =
    look-found (element c k) (alone (changed (write (element c k) None v) left))
    ∙ ap (or_default (pos 0)) (
    element-written (write (element c k) None v) left c k
    ∙ ap (if_found (effect_on (width_at left c) 0 c k (write (element c k) None v))) (found-there left c k less)
    ∙ ap Some (at-both c c k k (written (width_at left c) None v) (look (element c k) (alone left)) refl refl)
    )

written-other : (left : Shaped) (d p c k : ℕ) (v : ℤ) → (d ≡ c → p ≡ k → ⊥) → look (element c k) (alone (changed (write (element d p) None v) left)) ≡ look (element c k) (alone left)
written-other left d p c k v other =
    look-found (element c k) (alone (changed (write (element d p) None v) left))
    ∙ ap (or_default (pos 0)) (
    element-written (write (element d p) None v) left c k
    ∙ sym (unchanged (effect_on (width_at left c) 0 c k (write (element d p) None v)) (λ x. at-two d c p k (written (width_at left c) None v) x other) (element_found (outermost c k) (alone left)))
    )
    ∙ sym (look-found (element c k) (alone left))

written-stream : (left : Shaped) (by : Option Resolution) (d p c : ℕ) (v : ℤ) → stream_found 0 c (alone (changed (write (element d p) by v) left)) ≡ stream_found 0 c (alone left)
written-stream left by d p c v =
    ap (stream_found 0 c) (one-change (write (element d p) by v) left)
    ∙ stream-changed 0 c (write (element d p) by v) (alone left)
    ∙ sym (unchanged (at d c (λ x. x)) (at-nothing d c) (stream_found 0 c (alone left)))

written-pushed : (left : Shaped) (d p c : ℕ) (v : ℤ) → waiting 0 c (alone (changed (write (element d p) None v) left)) ≡ waiting 0 c (alone left)
written-pushed left d p c v =
    waiting-found 0 c (alone (changed (write (element d p) None v) left)) ∙ ap (or_default []) (written-stream left None d p c v) ∙ sym (waiting-found 0 c (alone left))

-- ---- one element is turned

module _ (naming : Naming) (cut : Overlaid) (memory : Shaped) (fits : Fits naming cut memory) (elements : AreElementsOfWidth (alone memory)) (turn : Width → CutElement → ℤ → ElementLeft) (change : Width → ℤ → ℤ) (turns : TurnsTo turn change)
    (c n : ℕ) (one : CutElement) (there : cut_at cut.arrays c n ≡ Some one) where
  abbrev new : ElementLeft
  new = turn (width_at cut.left c) one (look (element c n) (alone cut.left))

  abbrev after : Overlaid
  after = with_element c n new cut

  numbered_after : AreNumbered naming after.arrays
  numbered_after = numbered-marked naming new.mark c n cut.arrays fits.numbered

  wide : width_at cut.left c ≡ width_at memory c
  wide = (fits.elements c n one there).2

  here_after : cut_at after.arrays c n ≡ Some (marked new.mark one)
  here_after = cut-own new.mark c n cut.arrays ∙ ap (option_map (marked new.mark)) there

  -- what it is in a memory that agrees
  turned-value : Agrees after memory → (old : ℤ) → element_found (outermost c one.place) (alone memory) ≡ Some old →
      marked_by (width_at memory c) new.mark (look (element c n) (alone after.left)) old ≡ change (width_at memory c) (marked_by (width_at memory c) one.mark (look (element c n) (alone cut.left)) old)
  turned-value agrees old is =
      let own : look (element c n) (alone after.left) ≡ wrapped_to (width_at memory c) new.value = written-own cut.left c n new.value (fits.elements c n one there).1 ∙ ap (λ w. wrapped_to w new.value) wide in
      let kept_so : new.mark ≡ Kept → one.opening ≡ old = λ m. same-some one.opening old (sym (kept-is after.arrays memory agrees.0 c n (marked new.mark one) here_after m) ∙ is) in
      let left = look (element c n) (alone cut.left) in
      ap (λ x. marked_by (width_at memory c) new.mark x old) own
      ∙ subst (λ w. IsElement w old → ((turn w one left).mark ≡ Kept → one.opening ≡ old)
      → marked_by (width_at memory c) (turn w one left).mark (wrapped_to (width_at memory c) (turn w one left).value) old ≡ change (width_at memory c) (marked_by (width_at memory c) one.mark left old))
      (sym wide) (turns (width_at memory c) one left old) (subst (λ w. IsElement w old) (sym wide) (elements c one.place old is)) kept_so

  own-committed : Agrees after memory →
      element_found (outermost c one.place) (alone (committed after memory)) ≡ if_found (change (width_at memory c)) (element_found (outermost c one.place) (alone (committed cut memory)))
  own-committed agrees =
      element-committed naming after memory numbered_after fits.one c n (marked new.mark one) here_after
      ∙ on (element_found (outermost c one.place) (alone memory)) refl
      ∙ ap (if_found (change (width_at memory c))) (sym (element-committed naming cut memory fits.numbered fits.one c n one there))
    where
      on : (o : Option ℤ) → element_found (outermost c one.place) (alone memory) ≡ o →
          if_found (marked_by (width_at memory c) new.mark (look (element c n) (alone after.left))) (element_found (outermost c one.place) (alone memory))
          ≡ if_found (change (width_at memory c)) (if_found (marked_by (width_at memory c) one.mark (look (element c n) (alone cut.left))) (element_found (outermost c one.place) (alone memory)))
      on None is = subst (λ o. if_found (marked_by (width_at memory c) new.mark (look (element c n) (alone after.left))) o ≡ if_found (change (width_at memory c)) (if_found (marked_by (width_at memory c) one.mark (look (element c n) (alone cut.left))) o)) (sym is) refl
      on (Some old) is =
          subst (λ o. if_found (marked_by (width_at memory c) new.mark (look (element c n) (alone after.left))) o ≡ if_found (change (width_at memory c)) (if_found (marked_by (width_at memory c) one.mark (look (element c n) (alone cut.left))) o))
          (sym is) (ap Some (turned-value agrees old is))

  -- the element of a place is the one that was turned, or else it stays
  turned-committed : Agrees after memory → (d e : ℕ) →
      element_found (outermost d e) (alone (committed after memory)) ≡ if_found (at c d (at one.place e (change (width_at memory c)))) (element_found (outermost d e) (alone (committed cut memory)))
  turned-committed agrees d e = on (cut-or-not naming cut.arrays fits.numbered fits.one d e)
    where
      g : ℤ → ℤ
      g = change (width_at memory c)

      stays : (c ≡ d → one.place ≡ e → ⊥) → element_found (outermost d e) (alone (committed after memory)) ≡ element_found (outermost d e) (alone (committed cut memory)) →
          element_found (outermost d e) (alone (committed after memory)) ≡ if_found (at c d (at one.place e g)) (element_found (outermost d e) (alone (committed cut memory)))
      stays two same = same ∙ unchanged (at c d (at one.place e g)) (λ x. at-two c d one.place e g x two) (element_found (outermost d e) (alone (committed cut memory)))

      on : IsCutOrNot cut.arrays d e → element_found (outermost d e) (alone (committed after memory)) ≡ if_found (at c d (at one.place e g)) (element_found (outermost d e) (alone (committed cut memory)))
      on (inr never) =
          stays (λ q r. never n one (ap (λ z. cut_at cut.arrays z n) (sym q) ∙ there) r)
          (element-uncut naming after memory numbered_after fits.one d e
          (λ k other at_so place. let old = there-before new.mark c n d k cut.arrays other at_so in never k old.0 old.1 (old.2 ∙ place))
          ∙ sym (element-uncut naming cut memory fits.numbered fits.one d e never))
      on (inl (k, other, at_so, place)) = by (own-or-other new.mark c n d k cut.arrays)
        where
          by : IsOwn new.mark c n d k cut.arrays → element_found (outermost d e) (alone (committed after memory)) ≡ if_found (at c d (at one.place e g)) (element_found (outermost d e) (alone (committed cut memory)))
          by (inl same) =
              let own : other ≡ one = same-some other one (sym at_so ∙ (λ i. cut_at cut.arrays (sym same.0 i) (sym same.1 i)) ∙ there) in
              let there_so : one.place ≡ e = ap (λ (t : CutElement). t.place) (sym own) ∙ place in
              (λ i. element_found (outermost (sym same.0 i) (sym there_so i)) (alone (committed after memory)))
              ∙ own-committed agrees
              ∙ (λ i. if_found g (element_found (outermost (same.0 i) (there_so i)) (alone (committed cut memory))))
              ∙ same_found g (at c d (at one.place e g)) (λ x. sym (at-both c d one.place e g x same.0 there_so)) (element_found (outermost d e) (alone (committed cut memory)))
          by (inr two) =
              stays
              (λ q r. two.0 q (same-some n k (sym (fits.numbered c n one there) ∙ (λ i. naming (q i) (r i)) ∙ ap (naming d) (sym place) ∙ fits.numbered d k other at_so)))
              (subst (λ p. element_found (outermost d p) (alone (committed after memory)) ≡ element_found (outermost d p) (alone (committed cut memory))) place
              (element-committed naming after memory numbered_after fits.one d k other (two.1 ∙ at_so)
              ∙ ap (λ x. if_found (marked_by (width_at memory d) other.mark x) (element_found (outermost d other.place) (alone memory))) (written-other cut.left c n d k new.value two.0)
              ∙ sym (element-committed naming cut memory fits.numbered fits.one d k other at_so)))

  -- streams stay
  stream-committed : (d : ℕ) → stream_found 0 d (alone (committed after memory)) ≡ stream_found 0 d (alone (committed cut memory))
  stream-committed d =
      committed-stream after memory d
      ∙ ap (λ p. if_found (stream_becomes (width_at memory d) (stream_at cut d) p) (stream_found 0 d (alone memory))) (written-pushed cut.left c n d new.value)
      ∙ sym (committed-stream cut memory d)

-- ---- what is seen

-- what work sees of an element is its value in the memory for which the cut stands
pub seen-committed : (naming : Naming) (cut : Overlaid) (memory : Shaped) (c n : ℕ) (one : CutElement) → Fits naming cut memory → AreElementsOfWidth (alone cut.left) → cut_at cut.arrays c n ≡ Some one → Agrees (turned kept_left c n cut) memory →
    seen_at c n cut ≡ look (element c one.place) (alone (committed cut memory))
seen-committed naming cut memory c n one fits lefts there agrees =
    ap (λ o. seen_if (width_at cut.left c) o left) there
    ∙ ap (λ w. sees_by one.mark w one.opening left) wide
    ∙ value one.mark
    ∙ sym (look-found (element c one.place) (alone (committed cut memory))
    ∙ ap (or_default (pos 0)) (element-committed naming cut memory fits.numbered fits.one c n one there ∙ ap (if_found (marked_by (width_at memory c) one.mark left)) is))
  where
    left : ℤ
    left = look (element c n) (alone cut.left)

    old : ℤ
    old = look (element c one.place) (alone memory)

    wide : width_at cut.left c ≡ width_at memory c
    wide = (fits.elements c n one there).2

    is : element_found (outermost c one.place) (alone memory) ≡ Some old
    is = found-there memory c one.place (fits.elements c n one there).0

    kept_one : Agrees (turned_if kept_left c n (Some one) cut) memory
    kept_one = subst (λ o. Agrees (turned_if kept_left c n o cut) memory) there agrees

    opening_so : one.opening ≡ old
    opening_so =
        same-some one.opening old
        (sym (kept-is (changed_at c (changed_at n (marked Kept)) cut.arrays) memory kept_one.0 c n (marked Kept one) (cut-own Kept c n cut.arrays ∙ ap (option_map (marked Kept)) there) refl) ∙ is)

    left_fits : wrapped_to (width_at memory c) left ≡ left
    left_fits = wrapped_to-element (width_at memory c) left (subst (λ w. IsElement w left) wide (lefts c n left (found-there cut.left c n (fits.elements c n one there).1)))

    value : (mark : ElementMark) → sees_by mark (width_at memory c) one.opening left ≡ marked_by (width_at memory c) mark left old
    value Untouched = opening_so
    value Kept = sym left_fits
    value Replaced = sym left_fits
    value (Gathered by) = ap (λ x. stored (width_at memory c) (Some by) x left) opening_so

-- ---- memories that are the same

abbrev none_marked : Marking
none_marked = record { element = λ c e. untouched; stream = λ c. unused }

abbrev no_numbers : Naming
no_numbers c e = None

all-stays : (before after : Memories) → stack_shape after ≡ stack_shape before → drop 1 after ≡ drop 1 before → ((c e : ℕ) → element_found (outermost c e) after ≡ element_found (outermost c e) before) →
    ((c : ℕ) → stream_found 0 c after ≡ stream_found 0 c before) → IsMerged no_numbers none_marked before before after
all-stays before after shape deeper elements streams = record {
  shape_so = shape;
  deeper_so = deeper;
  untouched_so = λ c e is. elements c e;
  unused_so = λ c is. streams c;
  unnumbered_so = λ c e is. elements c e;
  kept_so = λ c e n is. cc;
  drained_so = λ c is. cc;
  gathered_so = λ c e n by old is. cc;
  appended_so = λ c values is. cc;
}

abbrev first-of : Memories → Memory
first-of [] = []
first-of (m ∷ memories) = m

pub same-memory : (before after : Shaped) → AreElementsOfWidth (alone before) → after.shapes ≡ before.shapes → stack_shape (alone after) ≡ stack_shape (alone before) →
    ((c e : ℕ) → element_found (outermost c e) (alone after) ≡ element_found (outermost c e) (alone before)) → ((c : ℕ) → stream_found 0 c (alone after) ≡ stream_found 0 c (alone before)) → after ≡ before
same-memory before after widths shapes shape elements streams = (λ i. record { shapes = shapes i; contents = ap first-of same i })
  where
    same : alone after ≡ alone before
    same =
        one-merged no_numbers none_marked (alone before) (alone before) (alone after) (alone before) widths
        (all-stays (alone before) (alone after) shape refl elements streams)
        (all-stays (alone before) (alone before) refl refl (λ c e. refl) (λ c. refl))

pub shapes-stay : (changes : List Change) (memory : Shaped) → (all_changed changes memory).shapes ≡ memory.shapes
shapes-stay [] memory = refl
shapes-stay (change ∷ changes) memory = shapes-stay changes _

pub shape-stays : (changes : List Change) (memory : Shaped) → stack_shape (alone (all_changed changes memory)) ≡ stack_shape (alone memory)
shape-stays changes memory = ap stack_shape (alone-changed changes memory) ∙ shape-after changes (alone memory)

-- ---- elements of a width stay so

effect-fits : (w : Width) (l c e : ℕ) (change : Change) (x : ℤ) → IsElement w x → IsElement w (effect_on w l c e change x)
effect-fits w l c e nothing x fits = fits
effect-fits w l c e (write to by v) x fits = on (write-effect l c e to (written w by v))
  where
    on : WritesSo l c e to (written w by v) → IsElement w (effect_on w l c e (write to by v) x)
    on (inl same) = subst (IsElement w) (sym (same x)) fits
    on (inr there) = subst (IsElement w) (sym (there.1 x)) (IsElement-written w by v x)
effect-fits w l c e (push m d v) x fits = subst (IsElement w) (sym (at-within m l (at d c (λ x. x)) (at-nothing d c) x)) fits
effect-fits w l c e (take m d p) x fits = subst (IsElement w) (sym (at-within m l (at d c (λ x. x)) (at-nothing d c) x)) fits

effects-fit : (w : Width) (l c e : ℕ) (changes : List Change) (x : ℤ) → IsElement w x → IsElement w (effects_on w l c e changes x)
effects-fit w l c e [] x fits = fits
effects-fit w l c e (change ∷ changes) x fits = effects-fit w l c e changes (effect_on w l c e change x) (effect-fits w l c e change x fits)

width-after : (c : ℕ) (changes : List Change) (s : Memories) → container_width 0 c (apply_all changes s) ≡ container_width 0 c s
width-after c [] s = refl
width-after c (change ∷ changes) s = width-after c changes (apply change s) ∙ width-apply 0 c change s

pub elements-stay : (changes : List Change) (memory : Shaped) → AreElementsOfWidth (alone memory) → AreElementsOfWidth (alone (all_changed changes memory))
elements-stay changes memory fit = subst AreElementsOfWidth (sym (alone-changed changes memory)) so
  where
    so : AreElementsOfWidth (apply_all changes (alone memory))
    so c e value h =
        subst (λ w. IsElement w value) (sym (width-after c changes (alone memory))) (on (element_found (outermost c e) (alone memory)) (fit c e) (sym (element-after 0 c e changes (alone memory)) ∙ h))
      where
        w : Width
        w = container_width 0 c (alone memory)

        on : (o : Option ℤ) → ((old : ℤ) → o ≡ Some old → IsElement w old) → if_found (effects_on w 0 c e changes) o ≡ Some value → IsElement w value
        on None before h = cc
        on (Some old) before h = let is : effects_on w 0 c e changes old ≡ value = cc in subst (IsElement w) is (effects-fit w 0 c e changes old (before old refl))

-- ---- the laws

at-id : (d c p e : ℕ) (x : ℤ) → at d c (at p e (λ y. y)) x ≡ x
at-id d c p e x = at-within d c (at p e (λ y. y)) (at-nothing p e) x

turned-so : (turn : Width → CutElement → ℤ → ElementLeft) (c n : ℕ) (cut : Overlaid) (one : CutElement) → cut_at cut.arrays c n ≡ Some one → turned turn c n cut ≡ with_element c n (turn (width_at cut.left c) one (look (element c n) (alone cut.left))) cut
turned-so turn c n cut one there = ap (λ o. turned_if turn c n o cut) there

-- a use that changes nothing
pub stays-committed : (naming : Naming) (cut : Overlaid) (memory : Shaped) (turn : Width → CutElement → ℤ → ElementLeft) → TurnsTo turn (λ w old. old) → (c n : ℕ) (one : CutElement) → Fits naming cut memory → AreElementsOfWidth (alone memory) →
    cut_at cut.arrays c n ≡ Some one → Agrees (turned turn c n cut) memory → committed (turned turn c n cut) memory ≡ committed cut memory
stays-committed naming cut memory turn turns c n one fits elements there agrees =
    let so = turned-so turn c n cut one there in
    let used = with_element c n (turn (width_at cut.left c) one (look (element c n) (alone cut.left))) cut in
    let agrees_so : Agrees used memory = subst (λ (o : Overlaid). Agrees o memory) so agrees in
    ap (λ (o : Overlaid). committed o memory) so
    ∙ same-memory (committed cut memory) (committed used memory) (elements-stay (effects cut) memory elements)
    (shapes-stay (effects used) memory ∙ sym (shapes-stay (effects cut) memory)) (shape-stays (effects used) memory ∙ sym (shape-stays (effects cut) memory))
    (λ d e. turned-committed naming cut memory fits elements turn (λ w old. old) turns c n one there agrees_so d e
    ∙ sym (unchanged (at c d (at one.place e (λ y. y))) (at-id c d one.place e) (element_found (outermost d e) (alone (committed cut memory)))))
    (stream-committed naming cut memory fits elements turn (λ w old. old) turns c n one there)

-- a value that is written
pub written-committed : (naming : Naming) (cut : Overlaid) (memory : Shaped) (turn : Width → CutElement → ℤ → ElementLeft) (by : Option Resolution) (value : ℤ) → TurnsTo turn (λ w old. stored w by old value) → (c n : ℕ) (one : CutElement) → Fits naming cut memory →
    AreElementsOfWidth (alone memory) → cut_at cut.arrays c n ≡ Some one → Agrees (turned turn c n cut) memory → committed (turned turn c n cut) memory ≡ changed (write (element c one.place) by value) (committed cut memory)
written-committed naming cut memory turn by value turns c n one fits elements there agrees =
    let so = turned-so turn c n cut one there in
    let used = with_element c n (turn (width_at cut.left c) one (look (element c n) (alone cut.left))) cut in
    let change = write (element c one.place) by value in
    let before = committed cut memory in
    let agrees_so : Agrees used memory = subst (λ (o : Overlaid). Agrees o memory) so agrees in
    ap (λ (o : Overlaid). committed o memory) so
    ∙ same-memory (changed change before) (committed used memory) (elements-stay (change ∷ []) before (elements-stay (effects cut) memory elements))
    (shapes-stay (effects used) memory ∙ sym (shapes-stay (effects cut) memory)) (shape-stays (effects used) memory ∙ sym (shape-stays (change ∷ []) before ∙ shape-stays (effects cut) memory))
    (λ d e. turned-committed naming cut memory fits elements turn (λ w old. stored w by old value) turns c n one there agrees_so d e
    ∙ same-width d e (same_or_two c d)
    ∙ sym (element-written change before d e))
    (λ d. stream-committed naming cut memory fits elements turn (λ w old. stored w by old value) turns c n one there d ∙ sym (written-stream before by c one.place d value))
  where
    -- in its own container the width is the memory's
    same-width : (d e : ℕ) → (c ≡ d) ⊎ (c ≡ d → ⊥) →
        if_found (at c d (at one.place e (λ old. stored (width_at memory c) by old value))) (element_found (outermost d e) (alone (committed cut memory)))
        ≡ if_found (effect_on (width_at (committed cut memory) d) 0 d e (write (element c one.place) by value)) (element_found (outermost d e) (alone (committed cut memory)))
    same-width d e (inl q) =
        ap (λ w. if_found (at c d (at one.place e (λ old. stored w by old value))) (element_found (outermost d e) (alone (committed cut memory)))) (ap (width_at memory) q ∙ sym (width-changed (effects cut) d memory))
    same-width d e (inr two) =
        sym (unchanged (at c d (at one.place e (λ old. stored (width_at memory c) by old value))) (λ x. at-two c d one.place e (λ old. stored (width_at memory c) by old value) x (λ q r. two q)) (element_found (outermost d e) (alone (committed cut memory))))
        ∙ unchanged (effect_on (width_at (committed cut memory) d) 0 d e (write (element c one.place) by value)) (λ x. at-two c d one.place e (λ old. stored (width_at (committed cut memory) d) by old value) x (λ q r. two q)) (element_found (outermost d e) (alone (committed cut memory)))
