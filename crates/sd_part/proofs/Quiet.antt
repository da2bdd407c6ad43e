-- Cuts on which nothing was done but marks: each of them, committed, leaves the memory as it is.
use Rattle.std.proofs.Common.{rules, IfSome, ◌≡◌, ◌⊎◌, inl, inr, ℕ, zero, suc, ◌<◌, ℤ, pos, List, [], ◌∷◌, ◌++◌, map, drop, length, Option, Some, None, option_map, Bool, true, false, slice_get, slice_index_or, refl, sym, ◌∙◌, ap, subst}
use Rattle.std.specs.Bool.{⊤}
use Rattle.std.specs.Option.{option_and_then}
use Rattle.sd_num.specs.Width.{wrapped_to, IsElement}
use Rattle.sd_num.specs.Resolution.{stored, identity_of, IsCommuting}
use Rattle.sd_num.specs.declared.width.Width.{Width}
use Rattle.sd_num.specs.declared.width.Width.TheVariants.{W32, W64}
use Rattle.sd_num.specs.declared.resolution.Resolution.{Resolution}
use Rattle.sd_num.specs.declared.resolution.Resolution.TheVariants.{Sum, Product, Min, Max, And, Or, Xor, Last}
use Rattle.sd_num.proofs.StoredLemmas.{wrapped_to-twice, wrapped_to-element, stored-comm, identity-stored}
use Rattle.sd_work.specs.Memory.{Contents, array, stream, elements_of, width_of, look, waiting}
use Rattle.sd_work.specs.Change.{Change, write, changed_at, with_values, written, apply}
use Rattle.sd_work.proofs.Changes.{width-apply, IsElement-written}
use Rattle.sd_pieces.specs.course.Reading.{element_found, stream_found, contents_found, container_width, values_if}
use Rattle.sd_pieces.specs.course.Shape.{contents_shape}
use Rattle.sd_pieces.specs.cut.Merged.{outermost, AreElementsOfWidth}
use Rattle.sd_pieces.proofs.course_lemmas.Readings.{at, if_found, unchanged, or_default, effect_on, element-changed, stream-changed, look-found, waiting-found, found-changed_at, contents-found}
use Rattle.sd_pieces.proofs.cut_lemmas.NamedMemories.{same_or_two, at-same, at-other}
use Rattle.sd_pieces.proofs.cut_lemmas.Merging.{at-nothing}
use Rattle.sd_mem.specs.mem.Shaped.{Shaped, alone, changed, contents_at, width_at, element, with_values_at}
use Rattle.sd_cut.specs.declared.elements.CutElement.{CutElement}
use Rattle.sd_cut.specs.declared.elements.ElementMark.{ElementMark}
use Rattle.sd_cut.specs.declared.elements.ElementMark.TheVariants.{Untouched, Kept, Replaced, Gathered}
use Rattle.sd_cut.specs.declared.streams.CutStream.{CutStream}
use Rattle.sd_cut.specs.declared.streams.StreamUse.{StreamUse}
use Rattle.sd_cut.specs.declared.streams.StreamUse.TheVariants.{Unused, Drained, Appended}
use Rattle.sd_cut.specs.declared.turning.ElementLeft.{ElementLeft}
use Rattle.sd_cut.specs.Elements.{cut_at, marked, told}
use Rattle.sd_cut.specs.Streams.{next_cut, stream_drained, stream_appended, appended_use, stream_seen}
use Rattle.sd_cut.specs.Turning.{sees_by, kept_left, gathered_left, gathered_with, gathered_on, gathered_or_kept, are_one}
use Rattle.sd_cut.specs.Using.{with_element, turned, turned_if, stream_at, pushed_to, seen_of, values_seen, next_at, left_drained, drained_at}
use Rattle.sd_cut.specs.Overlaid.{Overlaid}
use Rattle.sd_cut.proofs.Performing.{alone-changed}
use Rattle.sd_cut.proofs.Merging.{found-there}
use Rattle.sd_cut.specs.Fits.{AreValuesOfWidth}
use Rattle.sd_part.proofs.Frames.{HaveOneFrame, frame-self, frame-both, map-changed, shape-written, shape-filled, element-there, stream-there, width-there, count-there, values-there, opening_of}

-- what is left of an element of a width that was marked and not used
abbrev pub IsQuietElement : ElementMark → Width → (opening left : ℤ) → Type 0
IsQuietElement Untouched width opening left = ⊤
IsQuietElement Kept width opening left = left ≡ wrapped_to width opening
IsQuietElement Replaced width opening left = ⊥
IsQuietElement (Gathered by) width opening left = identity_of by width ≡ Some left

-- what was taken of a stream that was marked and not used, and what is left of it
abbrev pub IsQuietStream : StreamUse → (taken : ℕ) → Width → (opening pushed : List ℤ) → Type 0
IsQuietStream Unused taken width opening pushed = (taken ≡ 0) × (pushed ≡ [])
IsQuietStream Drained taken width opening pushed = (taken ≡ length opening) × (pushed ≡ map (wrapped_to width) opening)
IsQuietStream Appended taken width opening pushed = (taken ≡ 0) × (pushed ≡ [])

-- a cut was marked and not used
pub record IsQuiet (cut : Overlaid) : Type 0 where
  pub elements : (c k : ℕ) (one : CutElement) → cut_at cut.arrays c k ≡ Some one → IsQuietElement one.mark (width_at cut.left c) one.opening (look (element c k) (alone cut.left))
  pub streams : (c : ℕ) (s : CutStream) → stream_at cut c ≡ Some s → IsQuietStream s.usage s.taken (width_at cut.left c) s.opening (pushed_to cut c)
  pub within : (c k : ℕ) (one : CutElement) → cut_at cut.arrays c k ≡ Some one → k < length (elements_of (contents_at cut.left c))
  pub there : (c : ℕ) (s : CutStream) → stream_at cut c ≡ Some s → (values : List ℤ) × (stream_found 0 c (alone cut.left) ≡ Some values)

-- what one mark keeps
pub record IsMarkedOn (cut after : Overlaid) : Type 0 where
  pub frame : HaveOneFrame after cut
  pub quiet : IsQuiet cut → IsQuiet after
  pub elements : AreElementsOfWidth (alone cut.left) → AreElementsOfWidth (alone after.left)
  pub values : AreValuesOfWidth (alone cut.left) → AreValuesOfWidth (alone after.left)

pub marked-self : (cut : Overlaid) → IsMarkedOn cut cut
marked-self cut = record { frame = frame-self cut; quiet = λ h. h; elements = λ h. h; values = λ h. h }

pub marked-both : (a b c : Overlaid) → IsMarkedOn a b → IsMarkedOn b c → IsMarkedOn a c
marked-both a b c h k = record {
  frame = frame-both c b a k.frame h.frame;
  quiet = λ q. k.quiet (h.quiet q);
  elements = λ q. k.elements (h.elements q);
  values = λ q. k.values (h.values q);
}

-- ---- a value that is written to what is left

one-change : (change : Change) (left : Shaped) → alone (changed change left) ≡ apply change (alone left)
one-change change left = alone-changed (change ∷ []) left

pub width-written : (change : Change) (left : Shaped) (c : ℕ) → width_at (changed change left) c ≡ width_at left c
width-written change left c = ap (container_width 0 c) (one-change change left) ∙ width-apply 0 c change (alone left)

element-written : (change : Change) (left : Shaped) (c k : ℕ) → element_found (outermost c k) (alone (changed change left)) ≡ if_found (effect_on (width_at left c) 0 c k change) (element_found (outermost c k) (alone left))
element-written change left c k = ap (element_found (outermost c k)) (one-change change left) ∙ element-changed 0 c k change (alone left)

-- it is there
written-own : (left : Shaped) (c k : ℕ) (v : ℤ) → k < length (elements_of (contents_at left c)) → look (element c k) (alone (changed (write (element c k) None v) left)) ≡ wrapped_to (width_at left c) v
written-own left c k v less =
    look-found (element c k) (alone (changed (write (element c k) None v) left))
    ∙ ap (or_default (pos 0)) (
    element-written (write (element c k) None v) left c k
    ∙ ap (if_found (effect_on (width_at left c) 0 c k (write (element c k) None v))) (found-there left c k less)
    ∙ ap Some (
    at-same c c refl (at k k (written (width_at left c) None v)) (look (element c k) (alone left))
    ∙ at-same k k refl (written (width_at left c) None v) (look (element c k) (alone left))
    )
    )

at-two : (d c p e : ℕ) (f : ℤ → ℤ) (x : ℤ) → (d ≡ c → p ≡ e → ⊥) → at d c (at p e f) x ≡ x
at-two d c p e f x n = on (same_or_two d c)
  where
    on : (d ≡ c) ⊎ (d ≡ c → ⊥) → at d c (at p e f) x ≡ x
    on (inl q) = at-same d c q (at p e f) x ∙ at-other p e (n q) f x
    on (inr m) = at-other d c m (at p e f) x

-- other elements stay
written-other : (left : Shaped) (d p c k : ℕ) (v : ℤ) → (d ≡ c → p ≡ k → ⊥) → look (element c k) (alone (changed (write (element d p) None v) left)) ≡ look (element c k) (alone left)
written-other left d p c k v other =
    look-found (element c k) (alone (changed (write (element d p) None v) left))
    ∙ ap (or_default (pos 0)) (
    element-written (write (element d p) None v) left c k
    ∙ sym (unchanged (effect_on (width_at left c) 0 c k (write (element d p) None v)) (λ x. at-two d c p k (written (width_at left c) None v) x other) (element_found (outermost c k) (alone left)))
    )
    ∙ sym (look-found (element c k) (alone left))

-- streams stay
written-stream : (left : Shaped) (d p c : ℕ) (v : ℤ) → stream_found 0 c (alone (changed (write (element d p) None v) left)) ≡ stream_found 0 c (alone left)
written-stream left d p c v =
    ap (stream_found 0 c) (one-change (write (element d p) None v) left)
    ∙ stream-changed 0 c (write (element d p) None v) (alone left)
    ∙ sym (unchanged (at d c (λ x. x)) (at-nothing d c) (stream_found 0 c (alone left)))

written-pushed : (left : Shaped) (d p c : ℕ) (v : ℤ) → waiting 0 c (alone (changed (write (element d p) None v) left)) ≡ waiting 0 c (alone left)
written-pushed left d p c v =
    waiting-found 0 c (alone (changed (write (element d p) None v) left)) ∙ ap (or_default []) (written-stream left d p c v) ∙ sym (waiting-found 0 c (alone left))

written-elements : (left : Shaped) (d p : ℕ) (v : ℤ) → AreElementsOfWidth (alone left) → AreElementsOfWidth (alone (changed (write (element d p) None v) left))
written-elements left d p v fit c k value h =
    subst (λ w. IsElement w value) (sym (width-written (write (element d p) None v) left c))
    (on (element_found (outermost c k) (alone left)) (fit c k) (sym (element-written (write (element d p) None v) left c k) ∙ h))
  where
    f : ℤ → ℤ
    f x = at d c (at p k (written (width_at left c) None v)) x

    one : (x : ℤ) → IsElement (width_at left c) x → IsElement (width_at left c) (f x)
    one x fits = by (same_or_two d c) (same_or_two p k)
      where
        by : (d ≡ c) ⊎ (d ≡ c → ⊥) → (p ≡ k) ⊎ (p ≡ k → ⊥) → IsElement (width_at left c) (f x)
        by (inl q) (inl r) =
            subst (IsElement (width_at left c)) (sym (at-same d c q (at p k (written (width_at left c) None v)) x ∙ at-same p k r (written (width_at left c) None v) x))
            (IsElement-written (width_at left c) None v x)
        by (inl q) (inr m) = subst (IsElement (width_at left c)) (sym (at-two d c p k (written (width_at left c) None v) x (λ s t. m t))) fits
        by (inr m) r = subst (IsElement (width_at left c)) (sym (at-two d c p k (written (width_at left c) None v) x (λ s t. m s))) fits

    on : (o : Option ℤ) → ((old : ℤ) → o ≡ Some old → IsElement (width_at left c) old) → if_found f o ≡ Some value → IsElement (width_at left c) value
    on None before e = cc
    on (Some old) before e = let is : f old ≡ value = cc in subst (IsElement (width_at left c)) is (one old (before old refl))

written-values : (left : Shaped) (d p : ℕ) (v : ℤ) → AreValuesOfWidth (alone left) → AreValuesOfWidth (alone (changed (write (element d p) None v) left))
written-values left d p v fit c values h =
    subst (λ w. map (wrapped_to w) values ≡ values) (sym (width-written (write (element d p) None v) left c)) (fit c values (sym (written-stream left d p c v) ∙ h))

-- ---- one element is marked

-- what a mark may make of an element that is quiet
abbrev pub KeepsQuiet : (Width → CutElement → ℤ → ElementLeft) → Type 0
KeepsQuiet turn =
    (w : Width) (one : CutElement) (left : ℤ) → IsQuietElement one.mark w one.opening left → IsQuietElement (turn w one left).mark w one.opening (wrapped_to w (turn w one left).value)

same-some : {A : Type 0} (x y : A) → Some x ≡ Some y → x ≡ y
same-some x y e = cc

list-there : {A : Type 0} (d : A) (i : ℕ) (f : A → A) (xs : List A) → f d ≡ d → slice_index_or (changed_at i f xs) i d ≡ f (slice_index_or xs i d)
list-there d i f [] none = sym none
list-there d zero f (x ∷ xs) none = refl
list-there d (suc i) f (x ∷ xs) none = list-there d i f xs none

list-elsewhere : {A : Type 0} (d : A) (i j : ℕ) (f : A → A) (xs : List A) → (i ≡ j → ⊥) → slice_index_or (changed_at i f xs) j d ≡ slice_index_or xs j d
list-elsewhere d i j f [] other = refl
list-elsewhere d zero zero f (x ∷ xs) other = absurd (other refl)
list-elsewhere d zero (suc j) f (x ∷ xs) other = refl
list-elsewhere d (suc i) zero f (x ∷ xs) other = refl
list-elsewhere d (suc i) (suc j) f (x ∷ xs) other = list-elsewhere d i j f xs (λ same. other (ap suc same))

cut-own : (d p : ℕ) (f : CutElement → CutElement) (arrays : List (List CutElement)) (one : CutElement) → cut_at arrays d p ≡ Some one → cut_at (changed_at d (changed_at p f) arrays) d p ≡ Some (f one)
cut-own d p f arrays one is =
    ap (λ l. slice_get l p) (list-there [] d (changed_at p f) arrays refl)
    ∙ found-changed_at p p f (slice_index_or arrays d [])
    ∙ ap (if_found (at p p f)) is
    ∙ ap Some (at-same p p refl f one)

cut-other : (d p c k : ℕ) (f : CutElement → CutElement) (arrays : List (List CutElement)) → (d ≡ c → p ≡ k → ⊥) → cut_at (changed_at d (changed_at p f) arrays) c k ≡ cut_at arrays c k
cut-other d p c k f arrays other = on (same_or_two d c)
  where
    on : (d ≡ c) ⊎ (d ≡ c → ⊥) → cut_at (changed_at d (changed_at p f) arrays) c k ≡ cut_at arrays c k
    on (inl same) =
        ap (λ n. slice_get (slice_index_or (changed_at d (changed_at p f) arrays) n []) k) (sym same)
        ∙ ap (λ l. slice_get l k) (list-there [] d (changed_at p f) arrays refl)
        ∙ found-changed_at p k f (slice_index_or arrays d [])
        ∙ sym (unchanged (at p k f) (λ x. at-other p k (other same) f x) (slice_get (slice_index_or arrays d []) k))
        ∙ ap (λ n. slice_get (slice_index_or arrays n []) k) same
    on (inr two) = ap (λ l. slice_get l k) (list-elsewhere [] d c (changed_at p f) arrays two)

told-stays : (mark : ElementMark) (one : CutElement) → told (marked mark one) ≡ told one
told-stays mark one = refl

element-frame : (d p : ℕ) (new : ElementLeft) (cut : Overlaid) → HaveOneFrame (with_element d p new cut) cut
element-frame d p new cut = record {
  windows = refl;
  arrays = map-changed (map told) d (changed_at p (marked new.mark)) (λ cuts. map-changed told p (marked new.mark) (told-stays new.mark) cuts) cut.arrays;
  streams = refl;
  shape = shape-written (write (element d p) None new.value) cut.left;
}

pub turned-marked : (turn : Width → CutElement → ℤ → ElementLeft) → KeepsQuiet turn → (d p : ℕ) (cut : Overlaid) → IsMarkedOn cut (turned turn d p cut)
turned-marked turn keeps d p cut = on (cut_at cut.arrays d p) refl
  where
    on : (o : Option CutElement) → cut_at cut.arrays d p ≡ o → IsMarkedOn cut (turned_if turn d p o cut)
    on None is = marked-self cut
    on (Some one) is = record {
      frame = frame;
      quiet = λ q. record {
        elements = quiet-elements q;
        streams = λ c s e.
            subst (λ w. IsQuietStream s.usage s.taken w s.opening (pushed_to after c)) (sym (width c))
            (subst (IsQuietStream s.usage s.taken (width_at cut.left c) s.opening) (sym (written-pushed cut.left d p c new.value)) (q.streams c s e));
        within = λ c k other e.
            let old = element-there after cut frame c k other e in
            subst (λ n. k < n) (sym (count-there after cut frame c)) (q.within c k old.0 old.1);
        there = λ c s e. let old = q.there c s e in (old.0, written-stream cut.left d p c new.value ∙ old.1);
      };
      elements = written-elements cut.left d p new.value;
      values = written-values cut.left d p new.value;
    }
      where
        new : ElementLeft
        new = turn (width_at cut.left d) one (look (element d p) (alone cut.left))

        after : Overlaid
        after = with_element d p new cut

        frame : HaveOneFrame after cut
        frame = element-frame d p new cut

        width : (c : ℕ) → width_at after.left c ≡ width_at cut.left c
        width c = width-written (write (element d p) None new.value) cut.left c

        quiet-elements : IsQuiet cut → (c k : ℕ) (other : CutElement) → cut_at after.arrays c k ≡ Some other → IsQuietElement other.mark (width_at after.left c) other.opening (look (element c k) (alone after.left))
        quiet-elements q c k other e = by (same_or_two d c) (same_or_two p k)
          where
            elsewhere : (d ≡ c → p ≡ k → ⊥) → IsQuietElement other.mark (width_at after.left c) other.opening (look (element c k) (alone after.left))
            elsewhere two =
                subst (λ w. IsQuietElement other.mark w other.opening (look (element c k) (alone after.left))) (sym (width c))
                (subst (IsQuietElement other.mark (width_at cut.left c) other.opening) (sym (written-other cut.left d p c k new.value two))
                (q.elements c k other (sym (cut-other d p c k (marked new.mark) cut.arrays two) ∙ e)))

            here : cut_at after.arrays d p ≡ Some other → IsQuietElement other.mark (width_at after.left d) other.opening (look (element d p) (alone after.left))
            here e =
                let same : marked new.mark one ≡ other = same-some (marked new.mark one) other (sym (cut-own d p (marked new.mark) cut.arrays one is) ∙ e) in
                subst (λ (t : CutElement). IsQuietElement t.mark (width_at after.left d) t.opening (look (element d p) (alone after.left))) same
                (subst (λ w. IsQuietElement new.mark w one.opening (look (element d p) (alone after.left))) (sym (width d))
                (subst (IsQuietElement new.mark (width_at cut.left d) one.opening) (sym (written-own cut.left d p new.value (q.within d p one is)))
                (keeps (width_at cut.left d) one (look (element d p) (alone cut.left)) (q.elements d p one is))))

            by : (d ≡ c) ⊎ (d ≡ c → ⊥) → (p ≡ k) ⊎ (p ≡ k → ⊥) → IsQuietElement other.mark (width_at after.left c) other.opening (look (element c k) (alone after.left))
            by (inl r) (inl t) =
                subst (λ (n : ℕ). IsQuietElement other.mark (width_at after.left n) other.opening (look (element n k) (alone after.left))) r
                (subst (λ (n : ℕ). IsQuietElement other.mark (width_at after.left d) other.opening (look (element d n) (alone after.left))) t
                (here ((λ i. cut_at after.arrays (r i) (t i)) ∙ e)))
            by (inl r) (inr m) = elsewhere (λ x y. m y)
            by (inr m) t = elsewhere (λ x y. m x)

-- an identity is an element of its width
identity-element : (w : Width) (by : Resolution) → IfSome (identity_of by w) (IsElement w)
identity-element W32 Sum = search rules
identity-element W64 Sum = search rules
identity-element W32 Product = search rules
identity-element W64 Product = search rules
identity-element W32 Min = search rules
identity-element W64 Min = search rules
identity-element W32 Max = search rules
identity-element W64 Max = search rules
identity-element W32 And = search rules
identity-element W64 And = search rules
identity-element W32 Or = search rules
identity-element W64 Or = search rules
identity-element W32 Xor = search rules
identity-element W64 Xor = search rules
identity-element w Last = tt

identity-fits : (w : Width) (by : Resolution) (e : ℤ) → identity_of by w ≡ Some e → wrapped_to w e ≡ e
identity-fits w by e is = wrapped_to-element w e (subst (λ o. IfSome o (IsElement w)) is (identity-element w by))

commutes : (by : Resolution) (w : Width) (identity : ℤ) → identity_of by w ≡ Some identity → IsCommuting by
commutes by w identity is last = let clash : None ≡ Some identity = ap (λ r. identity_of r w) (sym last) ∙ is in cc

-- what is gathered at the identity is the element
pub identity-right : (w : Width) (by : Resolution) (old identity : ℤ) → identity_of by w ≡ Some identity → stored w (Some by) old identity ≡ wrapped_to w old
identity-right w by old identity is = stored-comm w by old identity (commutes by w identity is) ∙ identity-stored w by identity old is

pub kept-quiet : KeepsQuiet kept_left
kept-quiet w one left q = on one.mark q
  where
    on : (mark : ElementMark) → IsQuietElement mark w one.opening left → wrapped_to w (sees_by mark w one.opening left) ≡ wrapped_to w one.opening
    on Untouched h = refl
    on Kept h = ap (wrapped_to w) h ∙ wrapped_to-twice w one.opening
    on Replaced h = absurd h
    on (Gathered by) h = ap (wrapped_to w) (identity-right w by one.opening left h) ∙ wrapped_to-twice w one.opening

pub gathered-quiet : (by : Resolution) → KeepsQuiet (gathered_left by)
gathered-quiet by w one left q = on (identity_of by w) refl
  where
    same-mark : (mark : ElementMark) → IsQuietElement mark w one.opening left → IsQuietElement mark w one.opening (wrapped_to w left)
    same-mark Untouched h = tt
    same-mark Kept h = ap (wrapped_to w) h ∙ wrapped_to-twice w one.opening
    same-mark Replaced h = absurd h
    same-mark (Gathered other) h = h ∙ ap Some (sym (identity-fits w other left h))

    either : (b : Bool) → IsQuietElement (gathered_or_kept b w one left).mark w one.opening (wrapped_to w (gathered_or_kept b w one left).value)
    either true = same-mark one.mark q
    either false = kept-quiet w one left q

    turned-on : (identity : ℤ) → identity_of by w ≡ Some identity → (mark : ElementMark) → one.mark ≡ mark
        → IsQuietElement (gathered_on mark by identity w one left).mark w one.opening (wrapped_to w (gathered_on mark by identity w one left).value)
    turned-on identity is Untouched e = is ∙ ap Some (sym (identity-fits w by identity is))
    turned-on identity is Kept e = same-mark one.mark q
    turned-on identity is Replaced e = same-mark one.mark q
    turned-on identity is (Gathered other) e = either (are_one by other)

    on : (o : Option ℤ) → identity_of by w ≡ o → IsQuietElement (gathered_with o by w one left).mark w one.opening (wrapped_to w (gathered_with o by w one left).value)
    on None is = kept-quiet w one left q
    on (Some identity) is = turned-on identity is one.mark refl

-- ---- one stream is marked

filled-found : (left : Shaped) (d c : ℕ) (values : List ℤ) → contents_found 0 c (alone (with_values_at d values left)) ≡ if_found (at d c (with_values (λ width old. map (wrapped_to width) values))) (contents_found 0 c (alone left))
filled-found left d c values = found-changed_at d c (with_values (λ width old. map (wrapped_to width) values)) left.contents

filled-other : (left : Shaped) (d c : ℕ) (values : List ℤ) → (d ≡ c → ⊥) → contents_found 0 c (alone (with_values_at d values left)) ≡ contents_found 0 c (alone left)
filled-other left d c values two = filled-found left d c values ∙ sym (unchanged (at d c _) (λ k. at-other d c two _ k) (contents_found 0 c (alone left)))

-- elements stay
filled-element : (left : Shaped) (d c k : ℕ) (values : List ℤ) → element_found (outermost c k) (alone (with_values_at d values left)) ≡ element_found (outermost c k) (alone left)
filled-element left d c k values = ap (option_and_then (λ (x : Contents). slice_get (elements_of x) k)) (filled-found left d c values) ∙ on (contents_found 0 c (alone left))
  where
    one : (x : Contents) → elements_of (at d c (with_values (λ width old. map (wrapped_to width) values)) x) ≡ elements_of x
    one x = by (same_or_two d c) x
      where
        filled : (x : Contents) → elements_of (with_values (λ width old. map (wrapped_to width) values) x) ≡ elements_of x
        filled (array w xs) = refl
        filled (stream w xs) = refl

        by : (d ≡ c) ⊎ (d ≡ c → ⊥) → (x : Contents) → elements_of (at d c (with_values (λ width old. map (wrapped_to width) values)) x) ≡ elements_of x
        by (inl same) x = ap elements_of (at-same d c same (with_values (λ width old. map (wrapped_to width) values)) x) ∙ filled x
        by (inr two) x = ap elements_of (at-other d c two (with_values (λ width old. map (wrapped_to width) values)) x)

    on : (o : Option Contents) → option_and_then (λ (x : Contents). slice_get (elements_of x) k) (if_found (at d c (with_values (λ width old. map (wrapped_to width) values))) o) ≡ option_and_then (λ (x : Contents). slice_get (elements_of x) k) o
    on None = refl
    on (Some x) = ap (λ l. slice_get l k) (one x)

filled-look : (left : Shaped) (d c k : ℕ) (values : List ℤ) → look (element c k) (alone (with_values_at d values left)) ≡ look (element c k) (alone left)
filled-look left d c k values =
    look-found (element c k) (alone (with_values_at d values left)) ∙ ap (or_default (pos 0)) (filled-element left d c k values) ∙ sym (look-found (element c k) (alone left))

-- the stream itself, where there is one
filled-own : (left : Shaped) (d : ℕ) (values old : List ℤ) → stream_found 0 d (alone left) ≡ Some old → stream_found 0 d (alone (with_values_at d values left)) ≡ Some (map (wrapped_to (width_at left d)) values)
filled-own left d values old is =
    ap (option_and_then values_if) (filled-found left d d values)
    ∙ on (contents_found 0 d (alone left)) refl is
  where
    width-of : (k : Contents) → contents_found 0 d (alone left) ≡ Some k → width_of k ≡ width_at left d
    width-of k e = ap width_of (sym (contents-found 0 d (alone left) ∙ ap (or_default (stream W64 [])) e))

    filled : (k : Contents) → values_if k ≡ Some old → values_if (with_values (λ width old. map (wrapped_to width) values) k) ≡ Some (map (wrapped_to (width_of k)) values)
    filled (array w xs) h = cc
    filled (stream w xs) h = refl

    on : (o : Option Contents) → contents_found 0 d (alone left) ≡ o → option_and_then values_if o ≡ Some old →
        option_and_then values_if (if_found (at d d (with_values (λ width old. map (wrapped_to width) values))) o) ≡ Some (map (wrapped_to (width_at left d)) values)
    on None e h = cc
    on (Some k) e h =
        ap values_if (at-same d d refl (with_values (λ width old. map (wrapped_to width) values)) k)
        ∙ filled k h
        ∙ ap (λ w. Some (map (wrapped_to w) values)) (width-of k e)

filled-stream-other : (left : Shaped) (d c : ℕ) (values : List ℤ) → (d ≡ c → ⊥) → stream_found 0 c (alone (with_values_at d values left)) ≡ stream_found 0 c (alone left)
filled-stream-other left d c values two = ap (option_and_then values_if) (filled-other left d c values two)

filled-width : (left : Shaped) (d c : ℕ) (values : List ℤ) → width_at (with_values_at d values left) c ≡ width_at left c
filled-width left d c values = width-there (record { windows = []; arrays = []; streams = []; left = with_values_at d values left }) (record { windows = []; arrays = []; streams = []; left = left })
    (record { windows = refl; arrays = refl; streams = refl; shape = shape-filled d values left }) c

filled-elements : (left : Shaped) (d : ℕ) (values : List ℤ) → AreElementsOfWidth (alone left) → AreElementsOfWidth (alone (with_values_at d values left))
filled-elements left d values fit c k value h = subst (λ w. IsElement w value) (sym (filled-width left d c values)) (fit c k value (sym (filled-element left d c k values) ∙ h))

wrapped-twice : (w : Width) (values : List ℤ) → map (wrapped_to w) (map (wrapped_to w) values) ≡ map (wrapped_to w) values
wrapped-twice w [] = refl
wrapped-twice w (v ∷ values) = λ i. wrapped_to-twice w v i ∷ wrapped-twice w values i

filled-fit : (values found : List ℤ) (w : Width) (o : Option Contents) → ((k : Contents) → o ≡ Some k → width_of k ≡ w) →
    option_and_then values_if (if_found (with_values (λ width old. map (wrapped_to width) values)) o) ≡ Some found → map (wrapped_to w) found ≡ found
filled-fit values found w None widths h = cc
filled-fit values found w (Some (array v xs)) widths h = cc
filled-fit values found w (Some (stream v xs)) widths h =
    let is : map (wrapped_to v) values ≡ found = same-some (map (wrapped_to v) values) found h in
    subst (λ l. map (wrapped_to w) l ≡ l) is (subst (λ u. map (wrapped_to u) (map (wrapped_to v) values) ≡ map (wrapped_to v) values) (widths (stream v xs) refl) (wrapped-twice v values))

filled-values : (left : Shaped) (d : ℕ) (values : List ℤ) → AreValuesOfWidth (alone left) → AreValuesOfWidth (alone (with_values_at d values left))
filled-values left d values fit c found h = subst (λ w. map (wrapped_to w) found ≡ found) (sym (filled-width left d c values)) (on (same_or_two d c))
  where
    width-of : (k : Contents) → contents_found 0 c (alone left) ≡ Some k → width_of k ≡ width_at left c
    width-of k e = ap width_of (sym (contents-found 0 c (alone left) ∙ ap (or_default (stream W64 [])) e))

    own : (o : Option Contents) → d ≡ c → if_found (at d c (with_values (λ width old. map (wrapped_to width) values))) o ≡ if_found (with_values (λ width old. map (wrapped_to width) values)) o
    own None same = refl
    own (Some k) same = ap Some (at-same d c same (with_values (λ width old. map (wrapped_to width) values)) k)

    on : (d ≡ c) ⊎ (d ≡ c → ⊥) → map (wrapped_to (width_at left c)) found ≡ found
    on (inl same) =
        filled-fit values found (width_at left c) (contents_found 0 c (alone left)) width-of
        (ap (option_and_then values_if) (sym (own (contents_found 0 c (alone left)) same) ∙ sym (filled-found left d c values)) ∙ h)
    on (inr two) = fit c found (sym (filled-stream-other left d c values two) ∙ h)

-- how a stream is used is changed
streams-frame : (f : CutStream → CutStream) → ((s : CutStream) → opening_of (f s) ≡ opening_of s) → (d : ℕ) (streams : List (Option CutStream)) →
    map (option_map opening_of) (changed_at d (option_map f) streams) ≡ map (option_map opening_of) streams
streams-frame f same d streams = map-changed (option_map opening_of) d (option_map f) one streams
  where
    one : (o : Option CutStream) → option_map opening_of (option_map f o) ≡ option_map opening_of o
    one None = refl
    one (Some s) = ap Some (same s)

-- the stream of a container behind that
stream-own : (d : ℕ) (f : CutStream → CutStream) (streams : List (Option CutStream)) → slice_index_or (changed_at d (option_map f) streams) d None ≡ option_map f (slice_index_or streams d None)
stream-own d f streams = list-there None d (option_map f) streams refl

from-map : (f : CutStream → CutStream) (o : Option CutStream) (s : CutStream) → option_map f o ≡ Some s → (old : CutStream) × (o ≡ Some old) × (f old ≡ s)
from-map f None s h = cc
from-map f (Some old) s h = (old, refl, same-some (f old) s h)

-- ---- values are appended

appended-quiet : (usage : StreamUse) (taken : ℕ) (w : Width) (opening pushed : List ℤ) → IsQuietStream usage taken w opening pushed → IsQuietStream (appended_use usage) taken w opening pushed
appended-quiet Unused taken w opening pushed h = h
appended-quiet Drained taken w opening pushed h = h
appended-quiet Appended taken w opening pushed h = h

-- a stream is marked, and nothing else is left
pub appended-marked : (d : ℕ) (cut : Overlaid) → IsMarkedOn cut (record cut { streams = changed_at d (option_map stream_appended) cut.streams })
appended-marked d cut = record {
  frame = record { windows = refl; arrays = refl; streams = streams-frame stream_appended (λ s. refl) d cut.streams; shape = refl };
  quiet = λ q. record {
    elements = q.elements;
    streams = λ c s e. on q c s e (same_or_two d c);
    within = q.within;
    there = λ c s e. there q c s e (same_or_two d c);
  };
  elements = λ h. h;
  values = λ h. h;
}
  where
    back : (c : ℕ) (s : CutStream) → slice_index_or (changed_at d (option_map stream_appended) cut.streams) c None ≡ Some s → d ≡ c → (old : CutStream) × (stream_at cut c ≡ Some old) × (stream_appended old ≡ s)
    back c s e same =
        from-map stream_appended (stream_at cut c) s
        (sym (subst (λ n. slice_index_or (changed_at d (option_map stream_appended) cut.streams) n None ≡ option_map stream_appended (slice_index_or cut.streams n None)) same (stream-own d stream_appended cut.streams)) ∙ e)

    on : IsQuiet cut → (c : ℕ) (s : CutStream) → slice_index_or (changed_at d (option_map stream_appended) cut.streams) c None ≡ Some s → (d ≡ c) ⊎ (d ≡ c → ⊥) → IsQuietStream s.usage s.taken (width_at cut.left c) s.opening (pushed_to cut c)
    on q c s e (inl same) =
        let old = back c s e same in
        subst (λ (t : CutStream). IsQuietStream t.usage t.taken (width_at cut.left c) t.opening (pushed_to cut c)) old.2
        (appended-quiet old.0.usage old.0.taken (width_at cut.left c) old.0.opening (pushed_to cut c) (q.streams c old.0 old.1))
    on q c s e (inr two) = q.streams c s (sym (list-elsewhere None d c (option_map stream_appended) cut.streams two) ∙ e)

    there : IsQuiet cut → (c : ℕ) (s : CutStream) → slice_index_or (changed_at d (option_map stream_appended) cut.streams) c None ≡ Some s → (d ≡ c) ⊎ (d ≡ c → ⊥) → (values : List ℤ) × (stream_found 0 c (alone cut.left) ≡ Some values)
    there q c s e (inl same) = let old = back c s e same in q.there c old.0 old.1
    there q c s e (inr two) = q.there c s (sym (list-elsewhere None d c (option_map stream_appended) cut.streams two) ∙ e)

-- ---- a stream is drained

rest-none : (xs : List ℤ) (n : ℕ) → slice_get xs n ≡ None → drop n xs ≡ []
rest-none [] zero h = refl
rest-none [] (suc n) h = refl
rest-none (x ∷ xs) zero h = cc
rest-none (x ∷ xs) (suc n) h = rest-none xs n h

none-behind : (xs : List ℤ) (v : ℤ) → slice_get xs (length xs) ≡ Some v → ⊥
none-behind [] v h = cc
none-behind (x ∷ xs) v h = none-behind xs v h

append-none : (xs : List ℤ) → xs ++ [] ≡ xs
append-none [] = refl
append-none (x ∷ xs) = ap (λ l. x ∷ l) (append-none xs)

-- where nothing is left of what was cut, nothing was there or all was taken
none-left : (s : CutStream) (w : Width) (pushed : List ℤ) → next_cut s ≡ None → IsQuietStream s.usage s.taken w s.opening pushed → pushed ≡ map (wrapped_to w) s.opening
none-left s w pushed none q = on s.usage q
  where
    empty : s.taken ≡ 0 → pushed ≡ [] → pushed ≡ map (wrapped_to w) s.opening
    empty taken gone = gone ∙ ap (map (wrapped_to w)) (sym (rest-none s.opening 0 (ap (slice_get s.opening) (sym taken) ∙ none)))

    on : (usage : StreamUse) → IsQuietStream usage s.taken w s.opening pushed → pushed ≡ map (wrapped_to w) s.opening
    on Unused h = empty h.0 h.1
    on Drained h = h.1
    on Appended h = empty h.0 h.1

-- else work sees what was cut
all-left : (s : CutStream) (w : Width) (pushed : List ℤ) (v : ℤ) → next_cut s ≡ Some v → IsQuietStream s.usage s.taken w s.opening pushed → stream_seen s pushed ≡ s.opening
all-left s w pushed v next q = on s.usage q
  where
    all : s.taken ≡ 0 → pushed ≡ [] → stream_seen s pushed ≡ s.opening
    all taken gone = (λ i. drop (taken i) s.opening ++ gone i) ∙ append-none s.opening

    on : (usage : StreamUse) → IsQuietStream usage s.taken w s.opening pushed → stream_seen s pushed ≡ s.opening
    on Unused h = all h.0 h.1
    on Drained h = elim (none-behind s.opening v (ap (slice_get s.opening) (sym h.0) ∙ next)) [ ]
    on Appended h = all h.0 h.1

drained-frame : (d : ℕ) (cut : Overlaid) (left : Shaped) → map contents_shape left.contents ≡ map contents_shape cut.left.contents →
    HaveOneFrame (record cut { streams = changed_at d (option_map stream_drained) cut.streams; left = left }) cut
drained-frame d cut left shape = record { windows = refl; arrays = refl; streams = streams-frame stream_drained (λ s. refl) d cut.streams; shape = shape }

pub drained-marked : (d : ℕ) (cut : Overlaid) → IsMarkedOn cut (drained_at d cut)
drained-marked d cut = on (next_at cut d) refl
  where
    after : Shaped → Overlaid
    after left = record cut { streams = changed_at d (option_map stream_drained) cut.streams; left = left }

    back : (c : ℕ) (s : CutStream) → slice_index_or (changed_at d (option_map stream_drained) cut.streams) c None ≡ Some s → d ≡ c → (old : CutStream) × (stream_at cut c ≡ Some old) × (stream_drained old ≡ s)
    back c s e same =
        from-map stream_drained (stream_at cut c) s
        (sym (subst (λ n. slice_index_or (changed_at d (option_map stream_drained) cut.streams) n None ≡ option_map stream_drained (slice_index_or cut.streams n None)) same (stream-own d stream_drained cut.streams)) ∙ e)

    elsewhere : (c : ℕ) (s : CutStream) → slice_index_or (changed_at d (option_map stream_drained) cut.streams) c None ≡ Some s → (d ≡ c → ⊥) → stream_at cut c ≡ Some s
    elsewhere c s e two = sym (list-elsewhere None d c (option_map stream_drained) cut.streams two) ∙ e

    next-of : (c : ℕ) (old : CutStream) (o : Option ℤ) → d ≡ c → stream_at cut c ≡ Some old → next_at cut d ≡ o → next_cut old ≡ o
    next-of c old o same is next = ap (option_and_then next_cut) (sym is ∙ ap (stream_at cut) (sym same)) ∙ next

    -- nothing else is left
    stays : next_at cut d ≡ None → IsMarkedOn cut (after cut.left)
    stays none = record {
      frame = drained-frame d cut cut.left refl;
      quiet = λ q. record {
        elements = q.elements;
        streams = λ c s e. quiet q c s e (same_or_two d c);
        within = q.within;
        there = λ c s e. let old = stream-there (after cut.left) cut (drained-frame d cut cut.left refl) c s e in q.there c old.0 old.1;
      };
      elements = λ h. h;
      values = λ h. h;
    }
      where
        quiet : IsQuiet cut → (c : ℕ) (s : CutStream) → slice_index_or (changed_at d (option_map stream_drained) cut.streams) c None ≡ Some s → (d ≡ c) ⊎ (d ≡ c → ⊥) →
            IsQuietStream s.usage s.taken (width_at cut.left c) s.opening (pushed_to cut c)
        quiet q c s e (inl same) =
            let old = back c s e same in
            subst (λ (t : CutStream). IsQuietStream t.usage t.taken (width_at cut.left c) t.opening (pushed_to cut c)) old.2
            (refl, none-left old.0 (width_at cut.left c) (pushed_to cut c) (next-of c old.0 None same old.1 none) (q.streams c old.0 old.1))
        quiet q c s e (inr two) = q.streams c s (elsewhere c s e two)

    -- what work sees is left
    filled : (v : ℤ) → next_at cut d ≡ Some v → IsMarkedOn cut (after (with_values_at d (values_seen d cut) cut.left))
    filled v next = record {
      frame = frame;
      quiet = λ q. record {
        elements = λ c k one e.
            subst (λ w. IsQuietElement one.mark w one.opening (look (element c k) (alone new))) (sym (width c))
            (subst (IsQuietElement one.mark (width_at cut.left c) one.opening) (sym (filled-look cut.left d c k (values_seen d cut))) (q.elements c k one e));
        streams = λ c s e. subst (λ w. IsQuietStream s.usage s.taken w s.opening (waiting 0 c (alone new))) (sym (width c)) (quiet q c s e (same_or_two d c));
        within = λ c k one e. subst (λ n. k < n) (sym (count-there (after new) cut frame c)) (q.within c k one e);
        there = λ c s e.
            let old = stream-there (after new) cut frame c s e in
            let found = q.there c old.0 old.1 in
            values-there (after new) cut frame c found.0 found.1;
      };
      elements = filled-elements cut.left d (values_seen d cut);
      values = filled-values cut.left d (values_seen d cut);
    }
      where
        new : Shaped
        new = with_values_at d (values_seen d cut) cut.left

        frame : HaveOneFrame (after new) cut
        frame = drained-frame d cut new (shape-filled d (values_seen d cut) cut.left)

        width : (c : ℕ) → width_at new c ≡ width_at cut.left c
        width c = filled-width cut.left d c (values_seen d cut)

        quiet : IsQuiet cut → (c : ℕ) (s : CutStream) → slice_index_or (changed_at d (option_map stream_drained) cut.streams) c None ≡ Some s → (d ≡ c) ⊎ (d ≡ c → ⊥) →
            IsQuietStream s.usage s.taken (width_at cut.left c) s.opening (waiting 0 c (alone new))
        quiet q c s e (inl same) =
            let old = back c s e same in
            let w = width_at cut.left c in
            let there = q.there c old.0 old.1 in
            let seen : values_seen d cut ≡ old.0.opening =
            (λ i. seen_of (stream_at cut (same i)) (pushed_to cut (same i)))
            ∙ ap (λ o. seen_of o (pushed_to cut c)) old.1
            ∙ all-left old.0 w (pushed_to cut c) v (next-of c old.0 (Some v) same old.1 next) (q.streams c old.0 old.1) in
            let now : stream_found 0 c (alone new) ≡ Some (map (wrapped_to w) (values_seen d cut)) =
            subst (λ n. stream_found 0 c (alone (with_values_at n (values_seen d cut) cut.left)) ≡ Some (map (wrapped_to w) (values_seen d cut))) (sym same) (filled-own cut.left c (values_seen d cut) there.0 there.1) in
            subst (λ (t : CutStream). IsQuietStream t.usage t.taken w t.opening (waiting 0 c (alone new))) old.2
            (refl, waiting-found 0 c (alone new) ∙ ap (or_default []) now ∙ ap (map (wrapped_to w)) seen)
        quiet q c s e (inr two) =
            subst (IsQuietStream s.usage s.taken (width_at cut.left c) s.opening)
            (sym (waiting-found 0 c (alone new) ∙ ap (or_default []) (filled-stream-other cut.left d c (values_seen d cut) two) ∙ sym (waiting-found 0 c (alone cut.left))))
            (q.streams c s (elsewhere c s e two))

    on : (o : Option ℤ) → next_at cut d ≡ o → IsMarkedOn cut (after (left_drained o (values_seen d cut) d cut.left))
    on None none = stays none
    on (Some v) next = filled v next
