-- What is left after work, when it is committed in place of what was left before, is merged into what that came to.
use Rattle.std.proofs.Common.{◌≡◌, inl, inr, ℕ, zero, suc, ◌+◌, ℤ, List, [], ◌∷◌, ◌++◌, map, drop, length, Option, Some, None, option_map, slice_index_or, refl, sym, ◌∙◌, ap, subst, arith}
use Rattle.sd_num.specs.Width.{wrapped_to, IsElement}
use Rattle.sd_num.specs.Resolution.{stored, identity_of, IsCommuting}
use Rattle.sd_num.specs.declared.width.Width.{Width}
use Rattle.sd_num.specs.declared.resolution.Resolution.{Resolution}
use Rattle.sd_num.proofs.StoredLemmas.{wrapped_to-element, stored-comm, identity-stored}
use Rattle.sd_work.specs.Memory.{look, waiting}
use Rattle.sd_pieces.specs.course.Reading.{element_found, stream_found, container_width}
use Rattle.sd_pieces.specs.course.Shape.{stack_shape}
use Rattle.sd_pieces.specs.cut.Naming.{Naming, IsOneToOne}
use Rattle.sd_pieces.specs.cut.Merged.{untouched, gathered, StreamMark, unused, drained, appended, outermost, IsMerged, AreElementsOfWidth}
use Rattle.sd_pieces.proofs.course_lemmas.Readings.{if_found, unchanged, or_default, waiting-found}
use Rattle.sd_pieces.proofs.course_lemmas.Shapes.{shape-after}
use Rattle.sd_mem.specs.mem.Shaped.{Shaped, alone, width_at, element}
use Rattle.sd_cut.specs.declared.elements.ElementMark.{ElementMark}
use Rattle.sd_cut.specs.declared.elements.ElementMark.TheVariants as marks
use Rattle.sd_cut.specs.declared.streams.CutStream.{CutStream}
use Rattle.sd_cut.specs.declared.streams.StreamUse.{StreamUse}
use Rattle.sd_cut.specs.declared.streams.StreamUse.TheVariants.{Unused, Drained, Appended}
use Rattle.sd_cut.specs.Elements.{mark_of, marking_of, AreNumbered, AreFound}
use Rattle.sd_cut.specs.Streams.{pushed_by, taken_by, stream_mark, stream_mark_if, stream_becomes, IfDrained, IsStreamAsCut, AreStreamsAsCut, all_pushes, all_takes}
use Rattle.sd_cut.specs.Using.{committed, effects, stream_at, pushed_to, Agrees}
use Rattle.sd_cut.specs.Fits.{marking_in, Fits, IsReady, AreValuesOfWidth, with_left}
use Rattle.sd_cut.specs.Overlaid.{Overlaid}
use Rattle.sd_cut.proofs.Performing.{alone-changed}
use Rattle.sd_cut.proofs.Merging.{left-merged, stands, Stands, marked_by, gathered-stores, IsGathered, found-there}
use Rattle.sd_cut.proofs.Committed.{streamed, committed-is, streamed-element, streamed-found, width-changed, committed-stream}

-- ---- both sides as what is performed behind the streams' part

-- what is merged into the memory itself, by its elements
element-part : (naming : Naming) (cut : Overlaid) (memory : Shaped) → AreNumbered naming cut.arrays → IsOneToOne naming → AreFound cut.arrays cut.left memory → AreElementsOfWidth (alone cut.left) →
    IsMerged naming (marking_of naming cut.arrays) (alone cut.left) (alone (streamed cut memory)) (alone (committed cut memory))
element-part naming cut memory numbered one there fit =
    subst (λ (m : Shaped). IsMerged naming (marking_of naming cut.arrays) (alone cut.left) (alone (streamed cut memory)) (alone m)) (sym (committed-is cut memory))
    (left-merged naming cut.arrays cut.left (streamed cut memory) numbered one (streamed-found cut cut.arrays cut.left memory there) fit)

-- an element that no mark touches, and one without a number, are those of the memory
untouched-is : (naming : Naming) (cut : Overlaid) (memory : Shaped) → AreNumbered naming cut.arrays → IsOneToOne naming → AreFound cut.arrays cut.left memory → AreElementsOfWidth (alone cut.left) → (c e : ℕ) →
    (marking_of naming cut.arrays).element c e ≡ untouched → element_found (outermost c e) (alone (committed cut memory)) ≡ element_found (outermost c e) (alone memory)
untouched-is naming cut memory numbered one there fit c e m = (element-part naming cut memory numbered one there fit).untouched_so c e m ∙ streamed-element cut memory c e

unnumbered-is : (naming : Naming) (cut : Overlaid) (memory : Shaped) → AreNumbered naming cut.arrays → IsOneToOne naming → AreFound cut.arrays cut.left memory → AreElementsOfWidth (alone cut.left) → (c e : ℕ) →
    naming c e ≡ None → element_found (outermost c e) (alone (committed cut memory)) ≡ element_found (outermost c e) (alone memory)
unnumbered-is naming cut memory numbered one there fit c e n = (element-part naming cut memory numbered one there fit).unnumbered_so c e n ∙ streamed-element cut memory c e

-- ---- gathered elements

-- a resolution with an identity is a commuting one
commutes : (by : Resolution) (w : Width) (identity : ℤ) → identity_of by w ≡ Some identity → IsCommuting by
commutes by w identity is last = let clash : None ≡ Some identity = ap (λ r. identity_of r w) (sym last) ∙ is in cc

identity-right : (w : Width) (by : Resolution) (old identity : ℤ) → identity_of by w ≡ Some identity → IsElement w old → stored w (Some by) old identity ≡ old
identity-right w by old identity is fits = stored-comm w by old identity (commutes by w identity is) ∙ identity-stored w by identity old is ∙ wrapped_to-element w old fits

pub gathered-mark : (mark : ElementMark) (by : Resolution) → mark_of mark ≡ gathered by → mark ≡ marks.Gathered by
gathered-mark marks.Untouched by m = elim (subst (IsGathered by) (sym m) refl) [ ]
gathered-mark marks.Kept by m = elim (subst (IsGathered by) (sym m) refl) [ ]
gathered-mark marks.Replaced by m = elim (subst (IsGathered by) (sym m) refl) [ ]
gathered-mark (marks.Gathered other) by m = ap marks.Gathered (subst (IsGathered by) (sym m) refl)

-- ---- streams

abbrev IsUnusedMark : StreamMark → Type 0
IsUnusedMark unused = Unit
IsUnusedMark drained = ⊥
IsUnusedMark appended = ⊥

abbrev IsDrainedMark : StreamMark → Type 0
IsDrainedMark unused = ⊥
IsDrainedMark drained = Unit
IsDrainedMark appended = ⊥

abbrev IsAppendedMark : StreamMark → Type 0
IsAppendedMark unused = ⊥
IsAppendedMark drained = ⊥
IsAppendedMark appended = Unit

append_nil : {A : Type 0} (xs : List A) → xs ++ [] ≡ xs
append_nil [] = refl
append_nil (x ∷ xs) = ap (λ l. x ∷ l) (append_nil xs)

unused-becomes : (w : Width) (s : Option CutStream) (pushed values : List ℤ) → stream_mark_if s ≡ unused → stream_becomes w s pushed values ≡ values
unused-becomes w None pushed values m = append_nil values
unused-becomes w (Some s) pushed values m = on s.usage refl m
  where
    on : (u : StreamUse) → s.usage ≡ u → stream_mark s.usage ≡ unused → stream_becomes w (Some s) pushed values ≡ values
    on Unused is m = (λ i. drop (taken_by (is i) s.taken) (values ++ map (wrapped_to w) (pushed_by (is i) pushed))) ∙ append_nil values
    on Drained is m = elim (subst IsUnusedMark (sym (ap stream_mark (sym is) ∙ m)) tt) [ ]
    on Appended is m = elim (subst IsUnusedMark (sym (ap stream_mark (sym is) ∙ m)) tt) [ ]

drop-past : {A : Type 0} (xs ys : List A) → drop (length xs) (xs ++ ys) ≡ ys
drop-past [] ys = refl
drop-past (x ∷ xs) ys = drop-past xs ys

drained-becomes : (w : Width) (s : CutStream) (pushed : List ℤ) → s.usage ≡ Drained → s.taken ≡ length s.opening → stream_becomes w (Some s) pushed s.opening ≡ map (wrapped_to w) pushed
drained-becomes w s pushed is all =
    (λ i. drop (taken_by (is i) (all i)) (s.opening ++ map (wrapped_to w) (pushed_by (is i) pushed)))
    ∙ drop-past s.opening (map (wrapped_to w) pushed)

appended-becomes : (w : Width) (s : CutStream) (pushed values : List ℤ) → s.usage ≡ Appended → stream_becomes w (Some s) pushed values ≡ values ++ map (wrapped_to w) pushed
appended-becomes w s pushed values is = (λ i. drop (taken_by (is i) s.taken) (values ++ map (wrapped_to w) (pushed_by (is i) pushed)))

-- a stream with such a mark was cut, and used so
pub marked-drained : (o : Option CutStream) → stream_mark_if o ≡ drained → (s : CutStream) × (o ≡ Some s) × (s.usage ≡ Drained)
marked-drained None m = elim (subst IsDrainedMark (sym m) tt) [ ]
marked-drained (Some s) m = (s, refl, on s.usage m)
  where
    on : (u : StreamUse) → stream_mark u ≡ drained → u ≡ Drained
    on Unused m = elim (subst IsDrainedMark (sym m) tt) [ ]
    on Drained m = refl
    on Appended m = elim (subst IsDrainedMark (sym m) tt) [ ]

pub marked-appended : (o : Option CutStream) → stream_mark_if o ≡ appended → (s : CutStream) × (o ≡ Some s) × (s.usage ≡ Appended)
marked-appended None m = elim (subst IsAppendedMark (sym m) tt) [ ]
marked-appended (Some s) m = (s, refl, on s.usage m)
  where
    on : (u : StreamUse) → stream_mark u ≡ appended → u ≡ Appended
    on Unused m = elim (subst IsAppendedMark (sym m) tt) [ ]
    on Drained m = elim (subst IsAppendedMark (sym m) tt) [ ]
    on Appended m = refl

-- a drained stream is as it was where all of these are
pub drained-is : (memory : Shaped) (d m : ℕ) (streams : List (Option CutStream)) (c : ℕ) (s : CutStream) → d + m ≡ c → AreStreamsAsCut memory d streams → slice_index_or streams m None ≡ Some s → s.usage ≡ Drained →
    waiting 0 c (alone memory) ≡ s.opening
drained-is memory d m [] c s h all is used = cc
drained-is memory d zero (first ∷ streams) c s h all is used =
    let here : d ≡ c = omega (arith, h) in
    let own : IfDrained s.usage (waiting 0 d (alone memory) ≡ s.opening) = subst (λ (o : Option CutStream). IsStreamAsCut (waiting 0 d (alone memory)) o) is all.0 in
    ap (λ k. waiting 0 k (alone memory)) (sym here) ∙ subst (λ u. IfDrained u (waiting 0 d (alone memory) ≡ s.opening)) used own
drained-is memory d (suc m) (first ∷ streams) c s h all is used = drained-is memory (suc d) m streams c s (omega (arith, h)) all.1 is used

pub stream-there : (memory : Shaped) (c : ℕ) (values : List ℤ) → stream_found 0 c (alone memory) ≡ Some values → waiting 0 c (alone memory) ≡ values
stream-there memory c values is = waiting-found 0 c (alone memory) ∙ ap (or_default []) is

-- ---- what is merged

pub committed-merged : (naming : Naming) (cut : Overlaid) (left memory : Shaped) → Fits naming cut memory → Fits naming (with_left left cut) memory → IsReady cut → Agrees cut memory →
    ((c : ℕ) → width_at left c ≡ width_at cut.left c) → AreElementsOfWidth (alone cut.left) → AreElementsOfWidth (alone left) → AreElementsOfWidth (alone memory) → AreValuesOfWidth (alone left) →
    IsMerged naming (marking_in naming cut) (alone left) (alone (committed cut memory)) (alone (committed (with_left left cut) memory))
committed-merged naming cut left memory fits after ready agrees widths of_cut of_left of_memory values_fit = record {
  shape_so = ap stack_shape (alone-changed (effects (with_left left cut)) memory) ∙ shape-after (effects (with_left left cut)) (alone memory)
      ∙ sym (ap stack_shape (alone-changed (effects cut) memory) ∙ shape-after (effects cut) (alone memory));
  deeper_so = refl;
  untouched_so = λ c e m. untouched-is naming new memory after.numbered after.one after.elements of_left c e m ∙ sym (untouched-is naming cut memory fits.numbered fits.one fits.elements of_cut c e m);
  unused_so = λ c m. stream-now c ∙ unchanged-by c left m ∙ sym (committed-stream cut memory c ∙ unchanged-by c cut.left m);
  unnumbered_so = λ c e n. unnumbered-is naming new memory after.numbered after.one after.elements of_left c e n ∙ sym (unnumbered-is naming cut memory fits.numbered fits.one fits.elements of_cut c e n);
  kept_so = (element-part naming new memory after.numbered after.one after.elements of_left).kept_so;
  drained_so = drained_now;
  gathered_so = gathered_now;
  appended_so = appended_now;
}
  where
    new : Overlaid
    new = with_left left cut

    stream-now : (c : ℕ) → stream_found 0 c (alone (committed new memory)) ≡ if_found (stream_becomes (width_at memory c) (stream_at cut c) (waiting 0 c (alone left))) (stream_found 0 c (alone memory))
    stream-now c = committed-stream new memory c

    unchanged-by : (c : ℕ) (other : Shaped) → stream_mark_if (stream_at cut c) ≡ unused →
        if_found (stream_becomes (width_at memory c) (stream_at cut c) (waiting 0 c (alone other))) (stream_found 0 c (alone memory)) ≡ stream_found 0 c (alone memory)
    unchanged-by c other m = sym (unchanged (stream_becomes (width_at memory c) (stream_at cut c) (waiting 0 c (alone other))) (λ xs. unused-becomes (width_at memory c) (stream_at cut c) (waiting 0 c (alone other)) xs m) (stream_found 0 c (alone memory)))

    -- what is left of a stream is of the width
    left-values : (c : ℕ) (s : CutStream) → stream_at cut c ≡ Some s → Some (map (wrapped_to (width_at memory c)) (waiting 0 c (alone left))) ≡ stream_found 0 c (alone left)
    left-values c s is =
        let there = (after.streams c s is).1 in
        let values = stream-there left c there.0 there.1 in
        let wide = (after.streams c s is).2 in
        ap Some (ap (map (wrapped_to (width_at memory c))) values ∙ ap (λ w. map (wrapped_to w) there.0) (sym wide) ∙ values_fit c there.0 there.1) ∙ sym there.1

    drained_now : (c : ℕ) → stream_mark_if (stream_at cut c) ≡ drained → stream_found 0 c (alone (committed new memory)) ≡ stream_found 0 c (alone left)
    drained_now c m =
        let of = marked-drained (stream_at cut c) m in
        let s = of.0 in
        let there = (fits.streams c s of.1).0 in
        let here : 0 + c ≡ c = omega arith in
        let opening = sym (stream-there memory c there.0 there.1) ∙ drained-is memory 0 c cut.streams c s here agrees.1 of.1 of.2 in
        stream-now c
        ∙ ap (if_found (stream_becomes (width_at memory c) (stream_at cut c) (waiting 0 c (alone left)))) (there.1 ∙ ap Some opening)
        ∙ ap (λ o. Some (stream_becomes (width_at memory c) o (waiting 0 c (alone left)) s.opening)) of.1
        ∙ ap Some (drained-becomes (width_at memory c) s (waiting 0 c (alone left)) of.2 (ready.drained c s of.1 of.2))
        ∙ left-values c s of.1

    appended_now : (c : ℕ) (values : List ℤ) → stream_mark_if (stream_at cut c) ≡ appended → stream_found 0 c (alone (committed cut memory)) ≡ Some values →
        stream_found 0 c (alone (committed new memory)) ≡ option_map (λ others. values ++ others) (stream_found 0 c (alone left))
    appended_now c values m before =
        let of = marked-appended (stream_at cut c) m in
        let s = of.0 in
        let there = (fits.streams c s of.1).0 in
        let w = width_at memory c in
        let old : Some there.0 ≡ Some values =
        ap Some (sym (append_nil there.0) ∙ ap (λ l. there.0 ++ map (wrapped_to w) l) (sym (ready.appended c s of.1 of.2)) ∙ sym (appended-becomes w s (pushed_to cut c) there.0 of.2))
        ∙ ap (λ o. Some (stream_becomes w o (pushed_to cut c) there.0)) (sym of.1)
        ∙ sym (ap (if_found (stream_becomes w (stream_at cut c) (pushed_to cut c))) there.1)
        ∙ sym (committed-stream cut memory c)
        ∙ before in
        stream-now c
        ∙ ap (if_found (stream_becomes w (stream_at cut c) (waiting 0 c (alone left)))) (there.1 ∙ old)
        ∙ ap (λ o. Some (stream_becomes w o (waiting 0 c (alone left)) values)) of.1
        ∙ ap Some (appended-becomes w s (waiting 0 c (alone left)) values of.2)
        ∙ ap (option_map (λ others. values ++ others)) (left-values c s of.1)

    gathered_now : (c e number : ℕ) (by : Resolution) (old : ℤ) → (marking_of naming cut.arrays).element c e ≡ gathered by → naming c e ≡ Some number → IsElement (container_width 0 c (alone (committed cut memory))) old →
        element_found (outermost c e) (alone (committed cut memory)) ≡ Some old →
        element_found (outermost c e) (alone (committed new memory)) ≡ option_map (stored (container_width 0 c (alone (committed cut memory))) (Some by) old) (element_found (outermost c number) (alone left))
    gathered_now c e number by old m n old_fits before = on (stands naming cut.arrays cut.left (streamed cut memory) fits.numbered fits.one c e)
      where
        w : Width
        w = width_at memory c

        wide : container_width 0 c (alone (committed cut memory)) ≡ w
        wide = width-changed (effects cut) c memory

        streamed-wide : width_at (streamed cut memory) c ≡ w
        streamed-wide = width-changed (all_pushes 0 cut.left cut.streams ++ all_takes 0 cut.streams) c memory

        new-wide : container_width 0 c (alone (streamed new memory)) ≡ w
        new-wide = width-changed (all_pushes 0 left cut.streams ++ all_takes 0 cut.streams) c memory

        on : Stands naming cut.arrays cut.left (streamed cut memory) c e →
            element_found (outermost c e) (alone (committed new memory)) ≡ option_map (stored (container_width 0 c (alone (committed cut memory))) (Some by) old) (element_found (outermost c number) (alone left))
        on (inl h) = elim (subst (IsGathered by) (sym (sym h.0 ∙ m)) refl) [ ]
        on (inr h) =
            let one = h.1 in
            let value = look (element c h.0) (alone cut.left) in
            let first = look (element c e) (alone memory) in
            let there : element_found (outermost c e) (alone memory) ≡ Some first =
            subst (λ p. element_found (outermost c p) (alone memory) ≡ Some (look (element c p) (alone memory))) h.4 (found-there memory c one.place (fits.elements c h.0 one h.3).0) in
            let first_fits = of_memory c e first there in
            let mark : mark_of one.mark ≡ gathered by = sym h.5 ∙ m in
            let identity : identity_of by w ≡ Some value = ap (identity_of by) (sym (fits.elements c h.0 one h.3).2) ∙ ready.gathered c h.0 one by h.3 (gathered-mark one.mark by mark) in
            let stays : Some first ≡ Some old =
            ap Some (sym (gathered-stores w one.mark value by mark first ∙ identity-right w by first value identity first_fits))
            ∙ ap (λ v. Some (marked_by v one.mark value first)) (sym streamed-wide)
            ∙ sym (ap (if_found (marked_by (width_at (streamed cut memory) c) one.mark value)) (streamed-element cut memory c e ∙ there))
            ∙ sym h.6
            ∙ ap (λ (s : Shaped). element_found (outermost c e) (alone s)) (sym (committed-is cut memory))
            ∙ before in
            (element-part naming new memory after.numbered after.one after.elements of_left).gathered_so c e number by old m n (subst (λ v. IsElement v old) (wide ∙ sym new-wide) old_fits)
            (streamed-element new memory c e ∙ there ∙ stays)
            ∙ ap (λ v. option_map (stored v (Some by) old) (element_found (outermost c number) (alone left))) (new-wide ∙ sym wide)
