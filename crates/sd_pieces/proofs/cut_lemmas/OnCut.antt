-- Work on a cut of a memory, merged into another one, is the work from that one.
use Rattle.std.proofs.Common.{◌≡◌, ℕ, zero, suc, ℤ, List, [], ◌∷◌, ◌++◌, drop, Option, Some, None, refl, sym, ◌∙◌, ap, subst, arith}
use Rattle.std.specs.Prelude.{option_map}
use Rattle.sd_num.specs.Resolution.{stored, identity_of}
use Rattle.sd_num.specs.declared.width.Width.{Width}
use Rattle.sd_num.proofs.StoredLemmas.{stored-partial}
use Rattle.sd_work.specs.Memory.{Contents, Memories}
use Rattle.sd_work.specs.Change.{Change, nothing, write, push, take, with_contents, apply}
use Rattle.sd_work.specs.Residual.{Term}
use Rattle.sd_work.specs.Step.{Outcome, Done, Faulted, Spent}
use Rattle.sd_work.specs.BigStep.{Coming, reached, big_step}
use Rattle.sd_work.specs.Touch.{Touch, takes, Touches}
use Rattle.sd_pieces.specs.course.Reading.{Reading, reads_element, reads_stream, contents_found, element_found, stream_found, container_width, AgreeAt, AgreeOn, apply_all}
use Rattle.sd_pieces.specs.course.Course.{Course, course, told_end, told}
use Rattle.sd_pieces.specs.course.Touched.{IsChangeBy, AreChangesBy, AreReadingsBy, IsCourseBy}
use Rattle.sd_pieces.proofs.course_lemmas.Readings.{if_found, unchanged}
use Rattle.sd_pieces.proofs.course_lemmas.Courses.{told-course, course-depends}
use Rattle.sd_pieces.proofs.course_lemmas.Touched.{course-by}
use Rattle.sd_pieces.proofs.course_lemmas.Shapes.{shape-after}
use Rattle.sd_pieces.specs.cut.Naming.{Naming, IsOneToOne, term_named, IsTouchNamed, AreMemoriesNamed, ComesToNamed}
use Rattle.sd_pieces.specs.cut.Merged.{kept, Marking, outermost, IsMarked, IsPrepared, IsMerged, MergesTo}
use Rattle.sd_pieces.proofs.cut_lemmas.NamedMemories.{element-named, stream-named}
use Rattle.sd_pieces.proofs.cut_lemmas.NamedWork.{term-goes}
use Rattle.sd_pieces.proofs.cut_lemmas.Merging.{effects_on, stream_effects, element-after, stream-after, untouched-after, unnumbered-after, gathered-after, unused-after, appended-after}

-- ---- agreement on what is read

element-agrees : (marking : Marking) (s t : Memories) → IsPrepared marking s t → (l c e : ℕ) → (l ≡ 0) × (marking.element c e ≡ kept) →
    AgreeAt (reads_element (record { level = l; container = c; element = e })) s t
element-agrees marking s t p l c e h = subst (λ l. AgreeAt (reads_element (record { level = l; container = c; element = e })) s t) (sym h.0) (p.kept_so c e h.1)

stream-agrees : (marking : Marking) (s t : Memories) → IsPrepared marking s t → (l c : ℕ) → IsMarked marking (takes l c) → AgreeAt (reads_stream l c) s t
stream-agrees marking s t p l c h = subst (λ l. AgreeAt (reads_stream l c) s t) (sym h.0) (p.drained_so c h.1)

readings-agree : (marking : Marking) (s t : Memories) → IsPrepared marking s t → (rs : List Reading) → AreReadingsBy (IsMarked marking) rs → AgreeOn rs s t
readings-agree marking s t p [] h = tt
readings-agree marking s t p (reads_element r ∷ rs) h = (element-agrees marking s t p r.level r.container r.element h.0, readings-agree marking s t p rs h.1)
readings-agree marking s t p (reads_stream l c ∷ rs) h = (stream-agrees marking s t p l c h.0, readings-agree marking s t p rs h.1)

-- ---- the merged memory

-- work that touches the outermost memory alone leaves those deeper in the stack
deeper-contents : (l c : ℕ) (f : Contents → Contents) → l ≡ 0 → (s : Memories) → drop 1 (with_contents l c f s) ≡ drop 1 s
deeper-contents zero c f e [] = refl
deeper-contents zero c f e (own ∷ s) = refl
deeper-contents (suc l) c f e s = absurd (omega arith)

deeper-change : (marking : Marking) (change : Change) → IsChangeBy (IsMarked marking) change → (s : Memories) → drop 1 (apply change s) ≡ drop 1 s
deeper-change marking nothing h s = refl
deeper-change marking (write to by v) h s = deeper-contents to.level to.container _ h.0 s
deeper-change marking (push l c v) h s = deeper-contents l c _ h.0 s
deeper-change marking (take l c p) h s = deeper-contents l c _ h.0 s

deeper-after : (marking : Marking) (changes : List Change) → AreChangesBy (IsMarked marking) changes → (s : Memories) → drop 1 (apply_all changes s) ≡ drop 1 s
deeper-after marking [] h s = refl
deeper-after marking (change ∷ changes) h s = deeper-after marking changes h.1 (apply change s) ∙ deeper-change marking change h.0 s

append-nothing : (xs : List ℤ) → xs ++ [] ≡ xs
append-nothing [] = refl
append-nothing (x ∷ xs) = ap (λ l. x ∷ l) (append-nothing xs)

merged : (naming : Naming) (marking : Marking) (s t others : Memories) (changes : List Change) → IsPrepared marking s t → AreChangesBy (IsMarked marking) changes → AreChangesBy (IsTouchNamed naming 0) changes →
    AreMemoriesNamed naming 0 (apply_all changes s) others → IsMerged naming marking others t (apply_all changes t)
merged naming marking s t others changes p h o n = record {
  shape_so = shape-after changes t;
  deeper_so = deeper-after marking changes h t;
  untouched_so = λ c e m.
      let w : Width = container_width 0 c t in
      element-after 0 c e changes t ∙ sym (unchanged (effects_on w 0 c e changes) (untouched-after marking w c e changes h m) (element_found (outermost c e) t));
  unused_so = λ c m.
      let w : Width = container_width 0 c t in
      stream-after 0 c changes t ∙ sym (unchanged (stream_effects w 0 c changes) (unused-after marking w c changes h m) (stream_found 0 c t));
  unnumbered_so = λ c e m.
      let w : Width = container_width 0 c t in
      element-after 0 c e changes t ∙ sym (unchanged (effects_on w 0 c e changes) (unnumbered-after naming w c e changes o m) (element_found (outermost c e) t));
  kept_so = λ c e k m q.
      let same = p.kept_so c e m in
      element-after 0 c e changes t ∙ (λ i. if_found (effects_on (sym same.1 i) 0 c e changes) (sym same.0 i)) ∙ sym (element-after 0 c e changes s) ∙ element_left c e k q;
  drained_so = λ c m.
      let same = p.drained_so c m in
      stream-after 0 c changes t ∙ (λ i. if_found (stream_effects (sym same.1 i) 0 c changes) (sym same.0 i)) ∙ sym (stream-after 0 c changes s) ∙ stream_left c;
  gathered_so = λ c e k r old m q fits before.
      let w : Width = container_width 0 c t in
      let same = p.gathered_so c e r m in
      let identity : ℤ = same.1.0 in
      let is_left : Some (effects_on w 0 c e changes identity) ≡ element_found (outermost c k) others =
      (λ i. if_found (effects_on (sym same.0 i) 0 c e changes) (sym same.1.2 i)) ∙ sym (element-after 0 c e changes s) ∙ element_left c e k q in
      let is_old : stored w (Some r) old identity ≡ old = stored-partial w r identity old [] (ap (identity_of r) (sym same.0) ∙ same.1.1) fits in
      element-after 0 c e changes t ∙ ap (if_found (effects_on w 0 c e changes)) before
      ∙ ap Some (ap (effects_on w 0 c e changes) (sym is_old) ∙ gathered-after marking w c e r changes h m old identity)
      ∙ ap (option_map (stored w (Some r) old)) is_left;
  appended_so = λ c values m before.
      let w : Width = container_width 0 c t in
      let same = p.appended_so c m in
      let is_left : Some (stream_effects w 0 c changes []) ≡ stream_found 0 c others =
      (λ i. if_found (stream_effects (sym same.0 i) 0 c changes) (sym same.1 i)) ∙ sym (stream-after 0 c changes s) ∙ stream_left c in
      stream-after 0 c changes t ∙ ap (if_found (stream_effects w 0 c changes)) before
      ∙ ap Some (ap (stream_effects w 0 c changes) (sym (append-nothing values)) ∙ appended-after marking w c changes h m values [])
      ∙ ap (option_map (λ os. values ++ os)) is_left;
}
  where
    element_left : (c e k : ℕ) → naming c e ≡ Some k → element_found (outermost c e) (apply_all changes s) ≡ element_found (outermost c k) others
    element_left c e k q = element-named (naming c) e k q (contents_found 0 c (apply_all changes s)) (contents_found 0 c others) (n 0 c)

    stream_left : (c : ℕ) → stream_found 0 c (apply_all changes s) ≡ stream_found 0 c others
    stream_left c = stream-named (naming c) (contents_found 0 c (apply_all changes s)) (contents_found 0 c others) (n 0 c)

-- ---- work

pub on-cut : {P : Type 0} (naming : Naming) (marking : Marking) (term : Term P) (most : ℕ) (s cut t : Memories) (n : ℕ) → IsOneToOne naming →
    ((touch : Touch) → Touches term touch → IsTouchNamed naming 0 touch) → ((touch : Touch) → Touches term touch → IsMarked marking touch) →
    IsPrepared marking s t → AreMemoriesNamed naming 0 s cut →
    MergesTo naming marking t (big_step (term_named naming 0 term) most cut n) (big_step term most t n)
on-cut {P} naming marking term most s cut t n one named marked p r =
    subst (λ x. MergesTo naming marking t (big_step (term_named naming 0 term) most cut n) x) (sym from_t)
    (by_end c.end (subst (λ x. ComesToNamed naming 0 x (big_step (term_named naming 0 term) most cut n)) (told-course term most s n) (term-goes naming one 0 term named most s cut n r)))
  where
    c : Course P
    c = course term most s n

    by : IsCourseBy (IsMarked marking) c
    by = course-by (IsMarked marking) term marked most s n

    numbered : IsCourseBy (IsTouchNamed naming 0) c
    numbered = course-by (IsTouchNamed naming 0) term named most s n

    from_t : big_step term most t n ≡ told c t
    from_t = told-course term most t n ∙ ap (λ (c : Course P). told c t) (course-depends term most s t n (readings-agree marking s t p c.readings by.0))

    by_end : (end : Option (Outcome P ℕ)) → ComesToNamed naming 0 (told_end end (apply_all c.changes s)) (big_step (term_named naming 0 term) most cut n) →
        MergesTo naming marking t (big_step (term_named naming 0 term) most cut n) (told_end end (apply_all c.changes t))
    by_end (Some (Done m)) k =
        subst (λ x. MergesTo naming marking t x (reached (apply_all c.changes t) m)) (sym k.1)
        (apply_all c.changes t, refl, merged naming marking s t k.0 c.changes p by.1 numbered.1 k.2)
    by_end (Some (Faulted fault)) k = subst (λ x. MergesTo naming marking t x (Some (Faulted fault))) (sym k) refl
    by_end (Some Spent) k = subst (λ (x : Coming P). MergesTo naming marking t x (Some Spent)) (sym k) refl
    by_end None k = subst (λ (x : Coming P). MergesTo naming marking t x None) (sym k) refl
