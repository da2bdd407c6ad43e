-- What the effects of cut elements make of each element.
use Rattle.std.proofs.Common.{◌≡◌, ◌⊎◌, inl, inr, ℕ, zero, suc, ◌+◌, ◌<◌, ℤ, pos, List, [], ◌∷◌, ◌++◌, length, Option, Some, None, option_map, option_and_then, slice_get, slice_index_or, refl, sym, ◌∙◌, ap, subst, arith}
use Rattle.std.proofs.lemmas.Option.{slice_get-get_or}
use Rattle.sd_num.specs.Width.{wrapped_to, IsElement}
use Rattle.sd_num.specs.Resolution.{stored}
use Rattle.sd_num.specs.declared.width.Width.{Width}
use Rattle.sd_num.specs.declared.width.Width.TheVariants.{W64}
use Rattle.sd_num.specs.declared.resolution.Resolution.{Resolution}
use Rattle.sd_num.proofs.StoredLemmas.{wrapped_to-element}
use Rattle.sd_work.specs.Memory.{Contents, stream, look, elements_of}
use Rattle.sd_work.specs.Change.{Change, written}
use Rattle.sd_pieces.specs.course.Reading.{reads_element, AgreeAt, contents_found, element_found, stream_found, container_width}
use Rattle.sd_pieces.specs.course.Shape.{stack_shape}
use Rattle.sd_pieces.specs.cut.Naming.{Naming, IsOneToOne}
use Rattle.sd_pieces.specs.cut.Merged.{Mark, untouched, kept, gathered, StreamMark, unused, drained, appended, outermost, IsMerged, AreElementsOfWidth}
use Rattle.sd_pieces.proofs.course_lemmas.Readings.{at, if_found, unchanged, same_found, or_default, contents-found, effect_on, stream_effect}
use Rattle.sd_pieces.proofs.course_lemmas.Shapes.{shape-after}
use Rattle.sd_pieces.proofs.cut_lemmas.NamedMemories.{same_or_two, at-same, at-other}
use Rattle.sd_pieces.proofs.cut_lemmas.Merging.{effects_on, element-after, at-nothing, stream_effects, stream-after}
use Rattle.sd_mem.specs.mem.Shaped.{Shaped, alone, contents_at, width_at, element}
use Rattle.sd_cut.specs.declared.elements.CutElement.{CutElement}
use Rattle.sd_cut.specs.declared.elements.ElementMark.{ElementMark}
use Rattle.sd_cut.specs.declared.elements.ElementMark.TheVariants.{Untouched, Kept, Replaced, Gathered}
use Rattle.sd_cut.specs.Elements.{IfKept, IsAsCut, AreAsCut, AreAllAsCut, effect_of, effects_from, all_effects, all_changed, cut_at, AreNumbered, mark_of, mark_if, marking_of, AreFound}
use Rattle.sd_cut.proofs.Performing.{alone-changed}

-- ---- one effect

-- what an effect makes of its own element
abbrev pub marked_by : Width → ElementMark → (left old : ℤ) → ℤ
marked_by w Untouched left old = old
marked_by w Kept left old = wrapped_to w left
marked_by w Replaced left old = wrapped_to w left
marked_by w (Gathered by) left old = stored w (Some by) old left

at-two : (d c p e : ℕ) (f : ℤ → ℤ) (x : ℤ) → (d ≡ c → p ≡ e → ⊥) → at d c (at p e f) x ≡ x
at-two d c p e f x n = on (same_or_two d c)
  where
    on : (d ≡ c) ⊎ (d ≡ c → ⊥) → at d c (at p e f) x ≡ x
    on (inl q) = at-same d c q (at p e f) x ∙ at-other p e (n q) f x
    on (inr m) = at-other d c m (at p e f) x

effect-other : (w : Width) (c e d p : ℕ) (mark : ElementMark) (left x : ℤ) → (d ≡ c → p ≡ e → ⊥) → effect_on w 0 c e (effect_of mark (element d p) left) x ≡ x
effect-other w c e d p Untouched left x n = refl
effect-other w c e d p Kept left x n = at-two d c p e (written w None left) x n
effect-other w c e d p Replaced left x n = at-two d c p e (written w None left) x n
effect-other w c e d p (Gathered by) left x n = at-two d c p e (written w (Some by) left) x n

at-both : (c e p : ℕ) (f : ℤ → ℤ) (x : ℤ) → p ≡ e → at c c (at p e f) x ≡ f x
at-both c e p f x q = at-same c c refl (at p e f) x ∙ at-same p e q f x

effect-own : (w : Width) (c e p : ℕ) (mark : ElementMark) (left x : ℤ) → p ≡ e → effect_on w 0 c e (effect_of mark (element c p) left) x ≡ marked_by w mark left x
effect-own w c e p Untouched left x q = refl
effect-own w c e p Kept left x q = at-both c e p (written w None left) x q
effect-own w c e p Replaced left x q = at-both c e p (written w None left) x q
effect-own w c e p (Gathered by) left x q = at-both c e p (written w (Some by) left) x q

-- ---- the effects of an array

none-here : (w : Width) (c e d n : ℕ) (left : Shaped) (cuts : List CutElement) (x : ℤ) → ((k : ℕ) (cut : CutElement) → slice_get cuts k ≡ Some cut → d ≡ c → cut.place ≡ e → ⊥) →
    effects_on w 0 c e (effects_from d n left cuts) x ≡ x
none-here w c e d n left [] x never = refl
none-here w c e d n left (cut ∷ cuts) x never =
    ap (effects_on w 0 c e (effects_from d (suc n) left cuts)) (effect-other w c e d cut.place cut.mark (look (element d n) (alone left)) x (never 0 cut refl))
    ∙ none-here w c e d (suc n) left cuts x (λ k other q. never (suc k) other q)

abbrev IsSuc : ℕ → Type 0
IsSuc zero = ⊥
IsSuc (suc n) = Unit

abbrev pred : ℕ → ℕ
pred zero = zero
pred (suc n) = n

abbrev or_this : {A : Type 0} → A → Option A → A
or_this d None = d
or_this d (Some x) = x

pub same-some : {A : Type 0} (x y : A) → Some x ≡ Some y → x ≡ y
same-some x y e = ap (or_this x) e

one-here : (w : Width) (c e n : ℕ) (left : Shaped) (cuts : List CutElement) (k : ℕ) (cut : CutElement) (x : ℤ) → slice_get cuts k ≡ Some cut → cut.place ≡ e →
    ((j : ℕ) (other : CutElement) → slice_get cuts j ≡ Some other → other.place ≡ e → j ≡ k) →
    effects_on w 0 c e (effects_from c n left cuts) x ≡ marked_by w cut.mark (look (element c (n + k)) (alone left)) x
one-here w c e n left [] k cut x is place one = cc
one-here w c e n left (first ∷ cuts) zero cut x is place one =
    let same : first ≡ cut = same-some first cut is in
    let here : n ≡ n + 0 = omega arith in
    none-here w c e c (suc n) left cuts (effect_on w 0 c e (effect_of first.mark (element c first.place) (look (element c n) (alone left))) x)
    (λ j other q p r. subst IsSuc (one (suc j) other q r) tt)
    ∙ effect-own w c e first.place first.mark (look (element c n) (alone left)) x (ap (λ (t : CutElement). t.place) same ∙ place)
    ∙ (λ i. marked_by w (same i).mark (look (element c (here i)) (alone left)) x)
one-here w c e n left (first ∷ cuts) (suc k) cut x is place one =
    let next : suc n + k ≡ n + suc k = omega arith in
    ap (effects_on w 0 c e (effects_from c (suc n) left cuts)) (effect-other w c e c first.place first.mark (look (element c n) (alone left)) x (λ p q. subst IsSuc (sym (one 0 first refl q)) tt))
    ∙ one-here w c e (suc n) left cuts k cut x is place (λ j other q r. ap pred (one (suc j) other q r))
    ∙ ap (λ m. marked_by w cut.mark (look (element c m) (alone left)) x) next

-- ---- the effects of all arrays

pub effects-append : (w : Width) (c e : ℕ) (xs ys : List Change) (x : ℤ) → effects_on w 0 c e (xs ++ ys) x ≡ effects_on w 0 c e ys (effects_on w 0 c e xs x)
effects-append w c e [] ys x = refl
effects-append w c e (change ∷ xs) ys x = effects-append w c e xs ys (effect_on w 0 c e change x)

later : (w : Width) (c e d : ℕ) (left : Shaped) (arrays : List (List CutElement)) (x : ℤ) → c < d → effects_on w 0 c e (all_effects d left arrays) x ≡ x
later w c e d left [] x less = refl
later w c e d left (cuts ∷ arrays) x less =
    effects-append w c e (effects_from d 0 left cuts) (all_effects (suc d) left arrays) x
    ∙ ap (effects_on w 0 c e (all_effects (suc d) left arrays)) (none-here w c e d 0 left cuts x (λ k cut q p r. absurd (omega (arith, less, p))))
    ∙ later w c e (suc d) left arrays x (omega (arith, less))

own-array : (w : Width) (c e d m : ℕ) (left : Shaped) (arrays : List (List CutElement)) (x : ℤ) → d + m ≡ c → effects_on w 0 c e (all_effects d left arrays) x ≡ effects_on w 0 c e (effects_from c 0 left (slice_index_or arrays m [])) x
own-array w c e d m left [] x h = refl
own-array w c e d zero left (cuts ∷ arrays) x h =
    let here : d ≡ c = omega (arith, h) in
    effects-append w c e (effects_from d 0 left cuts) (all_effects (suc d) left arrays) x
    ∙ later w c e (suc d) left arrays (effects_on w 0 c e (effects_from d 0 left cuts) x) (omega (arith, h))
    ∙ ap (λ k. effects_on w 0 c e (effects_from k 0 left cuts) x) here
own-array w c e d (suc m) left (cuts ∷ arrays) x h =
    effects-append w c e (effects_from d 0 left cuts) (all_effects (suc d) left arrays) x
    ∙ ap (effects_on w 0 c e (all_effects (suc d) left arrays)) (none-here w c e d 0 left cuts x (λ k cut q p r. absurd (omega (arith, h, p))))
    ∙ own-array w c e (suc d) m left arrays x (omega (arith, h))

-- ---- one element of the memory

-- an element by its container's contents
pub element-at : (memory : Shaped) (c e : ℕ) → element_found (outermost c e) (alone memory) ≡ slice_get (elements_of (contents_at memory c)) e
element-at memory c e = on (contents_found 0 c (alone memory)) ∙ ap (λ (k : Contents). slice_get (elements_of k) e) (sym (contents-found 0 c (alone memory)))
  where
    on : (o : Option Contents) → option_and_then (λ (k : Contents). slice_get (elements_of k) e) o ≡ slice_get (elements_of (or_default (stream W64 []) o)) e
    on None = refl
    on (Some k) = refl

-- an element behind all effects
after-effects : (left memory : Shaped) (arrays : List (List CutElement)) (c e : ℕ) →
    element_found (outermost c e) (alone (all_changed (all_effects 0 left arrays) memory))
    ≡ if_found (effects_on (width_at memory c) 0 c e (effects_from c 0 left (slice_index_or arrays c []))) (element_found (outermost c e) (alone memory))
after-effects left memory arrays c e =
    let here : 0 + c ≡ c = omega arith in
    ap (element_found (outermost c e)) (alone-changed (all_effects 0 left arrays) memory)
    ∙ element-after 0 c e (all_effects 0 left arrays) (alone memory)
    ∙ same_found (effects_on (width_at memory c) 0 c e (all_effects 0 left arrays)) (effects_on (width_at memory c) 0 c e (effects_from c 0 left (slice_index_or arrays c [])))
    (λ x. own-array (width_at memory c) c e 0 c left arrays x here) (element_found (outermost c e) (alone memory))

-- ---- by its number

-- how an element is marked, and what it is behind all effects: it was not cut, or stands so among the elements that were
abbrev pub Stands : (naming : Naming) → (arrays : List (List CutElement)) → (left memory : Shaped) → (c e : ℕ) → Type 0
Stands naming arrays left memory c e =
    (((marking_of naming arrays).element c e ≡ untouched) × (element_found (outermost c e) (alone (all_changed (all_effects 0 left arrays) memory)) ≡ element_found (outermost c e) (alone memory)))
    ⊎ ((k : ℕ) × (cut : CutElement) × (naming c e ≡ Some k) × (cut_at arrays c k ≡ Some cut) × (cut.place ≡ e) × ((marking_of naming arrays).element c e ≡ mark_of cut.mark)
    × (element_found (outermost c e) (alone (all_changed (all_effects 0 left arrays) memory))
    ≡ if_found (marked_by (width_at memory c) cut.mark (look (element c k) (alone left))) (element_found (outermost c e) (alone memory))))

not-none : {A : Type 0} (x : A) → Some x ≡ None → ⊥
not-none x e = cc

not-cut : (naming : Naming) (arrays : List (List CutElement)) (left memory : Shaped) (c e : ℕ) → ((k : ℕ) (cut : CutElement) → cut_at arrays c k ≡ Some cut → cut.place ≡ e → ⊥) →
    element_found (outermost c e) (alone (all_changed (all_effects 0 left arrays) memory)) ≡ element_found (outermost c e) (alone memory)
not-cut naming arrays left memory c e never =
    after-effects left memory arrays c e
    ∙ sym (unchanged (effects_on (width_at memory c) 0 c e (effects_from c 0 left (slice_index_or arrays c [])))
    (λ x. none-here (width_at memory c) c e c 0 left (slice_index_or arrays c []) x (λ k cut q p r. never k cut q r)) (element_found (outermost c e) (alone memory)))

pub stands : (naming : Naming) (arrays : List (List CutElement)) (left memory : Shaped) → AreNumbered naming arrays → IsOneToOne naming → (c e : ℕ) → Stands naming arrays left memory c e
stands naming arrays left memory numbered one c e = by_number (naming c e) refl
  where
    by_cut : (k : ℕ) → naming c e ≡ Some k → (o : Option CutElement) → cut_at arrays c k ≡ o → Stands naming arrays left memory c e
    by_cut k named None is =
        inl (
          ap (λ (n : Option ℕ). mark_if (option_and_then (cut_at arrays c) n)) named ∙ ap mark_if is,
          not-cut naming arrays left memory c e (λ j cut q p.
              let same : j ≡ k = same-some j k (sym (numbered c j cut q) ∙ ap (naming c) p ∙ named) in
              not-none cut (sym q ∙ ap (cut_at arrays c) same ∙ is)),
        )
    by_cut k named (Some cut) is =
        let place : cut.place ≡ e = one c cut.place e k (numbered c k cut is) named in
        inr (
          k,
          cut,
          named,
          is,
          place,
          ap (λ (n : Option ℕ). mark_if (option_and_then (cut_at arrays c) n)) named ∙ ap mark_if is,
          after-effects left memory arrays c e
              ∙ same_found (effects_on (width_at memory c) 0 c e (effects_from c 0 left (slice_index_or arrays c []))) (marked_by (width_at memory c) cut.mark (look (element c k) (alone left)))
              (λ x. one-here (width_at memory c) c e 0 left (slice_index_or arrays c []) k cut x is place (λ j other q p. same-some j k (sym (numbered c j other q) ∙ ap (naming c) p ∙ named))
              ∙ ap (λ m. marked_by (width_at memory c) cut.mark (look (element c m) (alone left)) x) (let h : 0 + k ≡ k = omega arith in h))
              (element_found (outermost c e) (alone memory)),
        )

    by_number : (o : Option ℕ) → naming c e ≡ o → Stands naming arrays left memory c e
    by_number None named =
        inl (
          ap (λ (n : Option ℕ). mark_if (option_and_then (cut_at arrays c) n)) named,
          not-cut naming arrays left memory c e (λ j cut q p. not-none j (sym (numbered c j cut q) ∙ ap (naming c) p ∙ named)),
        )
    by_number (Some k) named = by_cut k named (cut_at arrays c k) refl

-- ---- marks

abbrev pub IsUntouched : Mark → Type 0
IsUntouched untouched = Unit
IsUntouched kept = ⊥
IsUntouched (gathered by) = ⊥

abbrev pub IsKept : Mark → Type 0
IsKept untouched = ⊥
IsKept kept = Unit
IsKept (gathered by) = ⊥

abbrev pub IsGathered : Resolution → Mark → Type 0
IsGathered by untouched = ⊥
IsGathered by kept = ⊥
IsGathered by (gathered other) = other ≡ by

pub untouched-stays : (w : Width) (mark : ElementMark) (left : ℤ) → mark_of mark ≡ untouched → (x : ℤ) → marked_by w mark left x ≡ x
untouched-stays w Untouched left m x = refl
untouched-stays w Kept left m x = elim (subst IsUntouched (sym m) tt) [ ]
untouched-stays w Replaced left m x = elim (subst IsUntouched (sym m) tt) [ ]
untouched-stays w (Gathered by) left m x = elim (subst IsUntouched (sym m) tt) [ ]

pub kept-replaces : (w : Width) (mark : ElementMark) (left : ℤ) → mark_of mark ≡ kept → (x : ℤ) → marked_by w mark left x ≡ wrapped_to w left
kept-replaces w Untouched left m x = elim (subst IsKept (sym m) tt) [ ]
kept-replaces w Kept left m x = refl
kept-replaces w Replaced left m x = refl
kept-replaces w (Gathered by) left m x = elim (subst IsKept (sym m) tt) [ ]

pub gathered-stores : (w : Width) (mark : ElementMark) (left : ℤ) (by : Resolution) → mark_of mark ≡ gathered by → (x : ℤ) → marked_by w mark left x ≡ stored w (Some by) x left
gathered-stores w Untouched left by m x = elim (subst (IsGathered by) (sym m) refl) [ ]
gathered-stores w Kept left by m x = elim (subst (IsGathered by) (sym m) refl) [ ]
gathered-stores w Replaced left by m x = elim (subst (IsGathered by) (sym m) refl) [ ]
gathered-stores w (Gathered other) left by m x = let same : other ≡ by = subst (IsGathered by) (sym m) refl in ap (λ r. stored w (Some r) x left) same

-- ---- what is merged

pub found-there : (memory : Shaped) (c e : ℕ) → e < length (elements_of (contents_at memory c)) → element_found (outermost c e) (alone memory) ≡ Some (look (element c e) (alone memory))
found-there memory c e less = element-at memory c e ∙ slice_get-get_or (elements_of (contents_at memory c)) e (pos 0) less

-- a change that is no push and no take leaves streams
effects-spare : (w : Width) (c d n : ℕ) (left : Shaped) (cuts : List CutElement) (rest : List Change) → ((xs : List ℤ) → stream_effects w 0 c rest xs ≡ xs) → (xs : List ℤ) → stream_effects w 0 c (effects_from d n left cuts ++ rest) xs ≡ xs
effects-spare w c d n left [] rest h xs = h xs
effects-spare w c d n left (cut ∷ cuts) rest h xs = ap (stream_effects w 0 c (effects_from d (suc n) left cuts ++ rest)) (on cut.mark) ∙ effects-spare w c d (suc n) left cuts rest h xs
  where
    on : (mark : ElementMark) → stream_effect w 0 c (effect_of mark (element d cut.place) (look (element d n) (alone left))) xs ≡ xs
    on Untouched = refl
    on Kept = at-nothing d c xs
    on Replaced = at-nothing d c xs
    on (Gathered by) = at-nothing d c xs

all-spare : (w : Width) (c d : ℕ) (left : Shaped) (arrays : List (List CutElement)) (xs : List ℤ) → stream_effects w 0 c (all_effects d left arrays) xs ≡ xs
all-spare w c d left [] xs = refl
all-spare w c d left (cuts ∷ arrays) xs = effects-spare w c d 0 left cuts (all_effects (suc d) left arrays) (all-spare w c (suc d) left arrays) xs

abbrev IsUnused : StreamMark → Type 0
IsUnused unused = Unit
IsUnused drained = ⊥
IsUnused appended = ⊥

pub streams-stay : (left memory : Shaped) (arrays : List (List CutElement)) (c : ℕ) → stream_found 0 c (alone (all_changed (all_effects 0 left arrays) memory)) ≡ stream_found 0 c (alone memory)
streams-stay left memory arrays c =
    ap (stream_found 0 c) (alone-changed (all_effects 0 left arrays) memory)
    ∙ stream-after 0 c (all_effects 0 left arrays) (alone memory)
    ∙ sym (unchanged (stream_effects (container_width 0 c (alone memory)) 0 c (all_effects 0 left arrays)) (all-spare (container_width 0 c (alone memory)) c 0 left arrays) (stream_found 0 c (alone memory)))

pub left-merged : (naming : Naming) (arrays : List (List CutElement)) (left memory : Shaped) → AreNumbered naming arrays → IsOneToOne naming → AreFound arrays left memory → AreElementsOfWidth (alone left) →
    IsMerged naming (marking_of naming arrays) (alone left) (alone memory) (alone (all_changed (all_effects 0 left arrays) memory))
left-merged naming arrays left memory numbered one there fit = record {
  shape_so = ap stack_shape (alone-changed (all_effects 0 left arrays) memory) ∙ shape-after (all_effects 0 left arrays) (alone memory);
  deeper_so = refl;
  untouched_so = untouched_now;
  unused_so = λ c m. streams-stay left memory arrays c;
  unnumbered_so = λ c e n. untouched_now c e (ap (λ (o : Option ℕ). mark_if (option_and_then (cut_at arrays c) o)) n);
  kept_so = kept_now;
  drained_so = λ c m. elim (subst IsUnused m tt) [ ];
  gathered_so = gathered_now;
  appended_so = λ c values m h. elim (subst IsUnused m tt) [ ];
}
  where
    after : Shaped
    after = all_changed (all_effects 0 left arrays) memory

    untouched_now : (c e : ℕ) → (marking_of naming arrays).element c e ≡ untouched → element_found (outermost c e) (alone after) ≡ element_found (outermost c e) (alone memory)
    untouched_now c e m = on (stands naming arrays left memory numbered one c e)
      where
        on : Stands naming arrays left memory c e → element_found (outermost c e) (alone after) ≡ element_found (outermost c e) (alone memory)
        on (inl h) = h.1
        on (inr h) = h.6 ∙ sym (unchanged (marked_by (width_at memory c) h.1.mark (look (element c h.0) (alone left))) (untouched-stays (width_at memory c) h.1.mark (look (element c h.0) (alone left)) (sym h.5 ∙ m)) (element_found (outermost c e) (alone memory)))

    -- what is left of an element, as it is found
    left_there : (c k : ℕ) (cut : CutElement) → cut_at arrays c k ≡ Some cut → element_found (outermost c k) (alone left) ≡ Some (look (element c k) (alone left))
    left_there c k cut is = found-there left c k (there c k cut is).1

    kept_now : (c e number : ℕ) → (marking_of naming arrays).element c e ≡ kept → naming c e ≡ Some number → element_found (outermost c e) (alone after) ≡ element_found (outermost c number) (alone left)
    kept_now c e number m named = on (stands naming arrays left memory numbered one c e)
      where
        on : Stands naming arrays left memory c e → element_found (outermost c e) (alone after) ≡ element_found (outermost c number) (alone left)
        on (inl h) = elim (subst IsUntouched (sym h.0 ∙ m) tt) [ ]
        on (inr h) =
            let value = look (element c h.0) (alone left) in
            let place : h.1.place < length (elements_of (contents_at memory c)) = (there c h.0 h.1 h.3).0 in
            let before = subst (λ p. element_found (outermost c p) (alone memory) ≡ Some (look (element c p) (alone memory))) h.4 (found-there memory c h.1.place place) in
            let element_of_width : IsElement (width_at memory c) value = subst (λ w. IsElement w value) (there c h.0 h.1 h.3).2 (fit c h.0 value (left_there c h.0 h.1 h.3)) in
            h.6
            ∙ ap (if_found (marked_by (width_at memory c) h.1.mark value)) before
            ∙ ap Some (kept-replaces (width_at memory c) h.1.mark value (sym h.5 ∙ m) (look (element c e) (alone memory)) ∙ wrapped_to-element (width_at memory c) value element_of_width)
            ∙ sym (left_there c h.0 h.1 h.3)
            ∙ ap (λ k. element_found (outermost c k) (alone left)) (same-some h.0 number (sym h.2 ∙ named))

    gathered_now : (c e number : ℕ) (by : Resolution) (old : ℤ) → (marking_of naming arrays).element c e ≡ gathered by → naming c e ≡ Some number → IsElement (container_width 0 c (alone memory)) old → element_found (outermost c e) (alone memory) ≡ Some old →
        element_found (outermost c e) (alone after) ≡ option_map (stored (container_width 0 c (alone memory)) (Some by) old) (element_found (outermost c number) (alone left))
    gathered_now c e number by old m named old_fits before = on (stands naming arrays left memory numbered one c e)
      where
        on : Stands naming arrays left memory c e → element_found (outermost c e) (alone after) ≡ option_map (stored (container_width 0 c (alone memory)) (Some by) old) (element_found (outermost c number) (alone left))
        on (inl h) = elim (subst (IsGathered by) (sym (sym h.0 ∙ m)) refl) [ ]
        on (inr h) =
            let value = look (element c h.0) (alone left) in
            h.6
            ∙ ap (if_found (marked_by (width_at memory c) h.1.mark value)) before
            ∙ ap Some (gathered-stores (width_at memory c) h.1.mark value by (sym h.5 ∙ m) old)
            ∙ ap (option_map (stored (width_at memory c) (Some by) old)) (sym (left_there c h.0 h.1 h.3) ∙ ap (λ k. element_found (outermost c k) (alone left)) (same-some h.0 number (sym h.2 ∙ named)))

-- ---- what has to be as it was

cut-kept : (elements : List ℤ) (cuts : List CutElement) (k : ℕ) (cut : CutElement) → AreAsCut elements cuts → slice_get cuts k ≡ Some cut → IsAsCut elements cut
cut-kept elements [] k cut h is = cc
cut-kept elements (first ∷ cuts) zero cut h is = subst (IsAsCut elements) (same-some first cut is) h.0
cut-kept elements (first ∷ cuts) (suc k) cut h is = cut-kept elements cuts k cut h.1 is

all-kept : (memory : Shaped) (d m : ℕ) (arrays : List (List CutElement)) (c k : ℕ) (cut : CutElement) → d + m ≡ c → AreAllAsCut memory d arrays → slice_get (slice_index_or arrays m []) k ≡ Some cut → IsAsCut (elements_of (contents_at memory c)) cut
all-kept memory d m [] c k cut h all is = cc
all-kept memory d zero (cuts ∷ arrays) c k cut h all is = let here : d ≡ c = omega (arith, h) in subst (λ d. IsAsCut (elements_of (contents_at memory d)) cut) here (cut-kept (elements_of (contents_at memory d)) cuts k cut all.0 is)
all-kept memory d (suc m) (cuts ∷ arrays) c k cut h all is = all-kept memory (suc d) m arrays c k cut (omega (arith, h)) all.1 is

as-kept : (mark : ElementMark) (A : Type 0) → mark ≡ Kept → IfKept mark A → A
as-kept mark A m h = subst (λ mark. IfKept mark A) m h

-- a kept element, as it is found
pub kept-is : (arrays : List (List CutElement)) (memory : Shaped) → AreAllAsCut memory 0 arrays → (c k : ℕ) (cut : CutElement) → cut_at arrays c k ≡ Some cut → cut.mark ≡ Kept →
    element_found (outermost c cut.place) (alone memory) ≡ Some cut.opening
kept-is arrays memory all c k cut is m =
    let here : 0 + c ≡ c = omega arith in
    element-at memory c cut.place ∙ as-kept cut.mark (slice_get (elements_of (contents_at memory c)) cut.place ≡ Some cut.opening) m (all-kept memory 0 c arrays c k cut here all is)

pub kept-agree : (arrays : List (List CutElement)) (memory other : Shaped) → AreAllAsCut memory 0 arrays → AreAllAsCut other 0 arrays → ((c : ℕ) → width_at memory c ≡ width_at other c) →
    (c k : ℕ) (cut : CutElement) → cut_at arrays c k ≡ Some cut → cut.mark ≡ Kept → AgreeAt (reads_element (outermost c cut.place)) (alone memory) (alone other)
kept-agree arrays memory other all others widths c k cut is m = (kept-is arrays memory all c k cut is m ∙ sym (kept-is arrays other others c k cut is m), widths c)
