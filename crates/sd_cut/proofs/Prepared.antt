-- A memory of which a cut that is ready is what its windows have, and that is prepared for the memory in which the cut is committed.
use Rattle.std.proofs.Common.{◌≡◌, inl, inr, ℕ, zero, suc, ◌+◌, ◌<◌, ℤ, List, [], ◌∷◌, map, length, Option, Some, None, option_map, slice_get, slice_index_or, refl, sym, ◌∙◌, ap, subst, arith}
use Rattle.std.specs.Option.{option_and_then}
use Rattle.sd_num.specs.Resolution.{identity_of}
use Rattle.sd_num.specs.declared.width.Width.{Width}
use Rattle.sd_num.specs.declared.width.Width.TheVariants.{W64}
use Rattle.sd_num.specs.declared.resolution.Resolution.{Resolution}
use Rattle.sd_work.specs.Memory.{Contents, array, stream, Memory, Memories, width_of, elements_of, look}
use Rattle.sd_pieces.specs.course.Reading.{reads_element, values_if, AgreeAt, HaveOneWidth, contents_found, element_found, stream_found, container_width}
use Rattle.sd_pieces.specs.course.Shape.{contents_shape, stack_shape}
use Rattle.sd_pieces.specs.cut.Naming.{Naming, AreContentsNamed, AreFoundNamed, AreMemoriesNamed}
use Rattle.sd_pieces.specs.cut.Merged.{kept, gathered, outermost, IsPrepared, IsMerged, AreElementsOfWidth}
use Rattle.sd_pieces.proofs.course_lemmas.Readings.{or_default, contents-found}
use Rattle.sd_pieces.proofs.course_lemmas.Shapes.{shape-after}
use Rattle.sd_mem.specs.mem.Shaped.{Shaped, alone, contents_at, width_at, element, IsArray}
use Rattle.sd_windows.specs.Windows.{Window}
use Rattle.sd_cut.specs.declared.elements.CutElement.{CutElement}
use Rattle.sd_cut.specs.declared.streams.CutStream.{CutStream}
use Rattle.sd_cut.specs.declared.elements.ElementMark.TheVariants.{Replaced}
use Rattle.sd_cut.specs.Elements.{all_changed, all_effects, cut_at, marked, mark_if, marking_of, AreNumbered, AreFound}
use Rattle.sd_cut.specs.Using.{committed, effects, stream_at, Agrees}
use Rattle.sd_cut.specs.Windowed.{window_at}
use Rattle.sd_cut.specs.Fits.{marking_in, Fits, IsReady, IsWhole, AreValuesOfWidth}
use Rattle.sd_cut.specs.Overlaid.{Overlaid}
use Rattle.sd_cut.proofs.Performing.{alone-changed}
use Rattle.sd_cut.proofs.Merging.{left-merged, stands, Stands, IsUntouched, IsGathered, element-at, found-there}
use Rattle.sd_cut.proofs.Committed.{width-changed}
use Rattle.sd_cut.proofs.Merged.{committed-merged, marked-drained, marked-appended, gathered-mark, stream-there}

-- ---- each element that was cut, replaced

abbrev all-replaced : List (List CutElement) → List (List CutElement)
all-replaced arrays = map (map (marked Replaced)) arrays

replaced-array : (arrays : List (List CutElement)) (c : ℕ) → slice_index_or (all-replaced arrays) c [] ≡ map (marked Replaced) (slice_index_or arrays c [])
replaced-array [] c = refl
replaced-array (cuts ∷ arrays) zero = refl
replaced-array (cuts ∷ arrays) (suc c) = replaced-array arrays c

get-map : {A B : Type 0} (f : A → B) (xs : List A) (k : ℕ) → slice_get (map f xs) k ≡ option_map f (slice_get xs k)
get-map f [] k = refl
get-map f (x ∷ xs) zero = refl
get-map f (x ∷ xs) (suc k) = get-map f xs k

replaced-at : (arrays : List (List CutElement)) (c k : ℕ) → cut_at (all-replaced arrays) c k ≡ option_map (marked Replaced) (cut_at arrays c k)
replaced-at arrays c k = ap (λ l. slice_get l k) (replaced-array arrays c) ∙ get-map (marked Replaced) (slice_index_or arrays c []) k

-- an element among these is one that was cut
from-replaced : (arrays : List (List CutElement)) (c k : ℕ) (one : CutElement) → cut_at (all-replaced arrays) c k ≡ Some one → (old : CutElement) × (cut_at arrays c k ≡ Some old) × (old.place ≡ one.place)
from-replaced arrays c k one is = on (cut_at arrays c k) refl (sym (replaced-at arrays c k) ∙ is)
  where
    place-of : Option CutElement → ℕ
    place-of None = 0
    place-of (Some t) = t.place

    on : (o : Option CutElement) → cut_at arrays c k ≡ o → option_map (marked Replaced) o ≡ Some one → (old : CutElement) × (cut_at arrays c k ≡ Some old) × (old.place ≡ one.place)
    on None e h = cc
    on (Some old) e h = (old, e, ap place-of h)

replaced-numbered : (naming : Naming) (arrays : List (List CutElement)) → AreNumbered naming arrays → AreNumbered naming (all-replaced arrays)
replaced-numbered naming arrays numbered c k one is = let old = from-replaced arrays c k one is in ap (naming c) (sym old.2) ∙ numbered c k old.0 old.1

replaced-found : (arrays : List (List CutElement)) (left memory : Shaped) → AreFound arrays left memory → AreFound (all-replaced arrays) left memory
replaced-found arrays left memory found c k one is =
    let old = from-replaced arrays c k one is in
    let f = found c k old.0 old.1 in
    (subst (λ p. p < length (elements_of (contents_at memory c))) old.2 f.0, f.1, f.2)

-- the memory with what is left of each of them
abbrev source : Overlaid → Shaped → Shaped
source cut memory = all_changed (all_effects 0 cut.left (all-replaced cut.arrays)) memory

source-element : (naming : Naming) (cut : Overlaid) (memory : Shaped) → Fits naming cut memory → AreElementsOfWidth (alone cut.left) → (c e number : ℕ) (one : CutElement) → naming c e ≡ Some number → cut_at cut.arrays c number ≡ Some one →
    element_found (outermost c e) (alone (source cut memory)) ≡ element_found (outermost c number) (alone cut.left)
source-element naming cut memory fits of_width c e number one named is =
    (left-merged naming (all-replaced cut.arrays) cut.left memory (replaced-numbered naming cut.arrays fits.numbered) fits.one (replaced-found cut.arrays cut.left memory fits.elements) of_width).kept_so c e number mark named
  where
    mark : (marking_of naming (all-replaced cut.arrays)).element c e ≡ kept
    mark = ap (λ (o : Option ℕ). mark_if (option_and_then (cut_at (all-replaced cut.arrays) c) o)) named ∙ ap mark_if (replaced-at cut.arrays c number ∙ ap (option_map (marked Replaced)) is)

source-width : (cut : Overlaid) (memory : Shaped) (c : ℕ) → width_at (source cut memory) c ≡ width_at memory c
source-width cut memory c = width-changed (all_effects 0 cut.left (all-replaced cut.arrays)) c memory

-- it has arrays where the memory has some
same-shape-at : (xs ys : Memory) (c : ℕ) → map contents_shape xs ≡ map contents_shape ys → contents_shape (slice_index_or xs c (stream W64 [])) ≡ contents_shape (slice_index_or ys c (stream W64 []))
same-shape-at xs ys c h = sym (index xs c) ∙ ap (λ l. slice_index_or l c (contents_shape (stream W64 []))) h ∙ index ys c
  where
    index : (xs : Memory) (c : ℕ) → slice_index_or (map contents_shape xs) c (contents_shape (stream W64 [])) ≡ contents_shape (slice_index_or xs c (stream W64 []))
    index [] c = refl
    index (x ∷ xs) zero = refl
    index (x ∷ xs) (suc c) = index xs c

source-array : (cut : Overlaid) (memory : Shaped) (c : ℕ) → IsArray (contents_at memory c) → IsArray (contents_at (source cut memory) c)
source-array cut memory c there = on (contents_at memory c) (contents_at (source cut memory) c) there (same-shape-at (source cut memory).contents memory.contents c same)
  where
    first-of : List (List (Width × Option ℕ)) → List (Width × Option ℕ)
    first-of [] = []
    first-of (x ∷ xs) = x

    same : map contents_shape (source cut memory).contents ≡ map contents_shape memory.contents
    same = ap first-of (ap stack_shape (alone-changed (all_effects 0 cut.left (all-replaced cut.arrays)) memory) ∙ shape-after (all_effects 0 cut.left (all-replaced cut.arrays)) (alone memory))

    on : (k j : Contents) → IsArray k → contents_shape j ≡ contents_shape k → IsArray j
    on (array w xs) (array v ys) h s = tt
    on (array w xs) (stream v ys) h s = let clash : None ≡ Some (length xs) = ap (λ (shape : Width × Option ℕ). shape.1) s in cc
    on (stream w xs) j h s = elim h [ ]

-- ---- the memory

abbrev pick : Option Window → (from left : Contents) → Contents
pick None from left = left
pick (Some window) from left = from

abbrev shown-from : Shaped → (windows : ℕ → Option Window) → (c : ℕ) → Memory → Memory
shown-from from windows c [] = []
shown-from from windows c (k ∷ own) = pick (windows c) (contents_at from c) k ∷ shown-from from windows (suc c) own

shown-at : (from : Shaped) (windows : ℕ → Option Window) (d m c : ℕ) (own : Memory) → d + m ≡ c → slice_get (shown-from from windows d own) m ≡ option_map (pick (windows c) (contents_at from c)) (slice_get own m)
shown-at from windows d m c [] h = refl
shown-at from windows d zero c (k ∷ own) h = let here : d ≡ c = omega (arith, h) in ap (λ n. Some (pick (windows n) (contents_at from n) k)) here
shown-at from windows d (suc m) c (k ∷ own) h = shown-at from windows (suc d) m c own (omega (arith, h))

abbrev shown : Overlaid → Shaped → Memories
shown cut memory = shown-from (source cut memory) (window_at cut.windows) 0 cut.left.contents ∷ []

shown-found : (cut : Overlaid) (memory : Shaped) (c : ℕ) → contents_found 0 c (shown cut memory) ≡ option_map (pick (window_at cut.windows c) (contents_at (source cut memory) c)) (contents_found 0 c (alone cut.left))
shown-found cut memory c = let here : 0 + c ≡ c = omega arith in shown-at (source cut memory) (window_at cut.windows) 0 c c cut.left.contents here

-- what is left of an array is there
left-there : (cut : Overlaid) (c : ℕ) → IsArray (contents_at cut.left c) → (k : Contents) × (contents_found 0 c (alone cut.left) ≡ Some k) × (contents_at cut.left c ≡ k)
left-there cut c h = on (contents_found 0 c (alone cut.left)) refl (contents-found 0 c (alone cut.left))
  where
    on : (o : Option Contents) → contents_found 0 c (alone cut.left) ≡ o → contents_at cut.left c ≡ or_default (stream W64 []) (contents_found 0 c (alone cut.left)) → (k : Contents) × (contents_found 0 c (alone cut.left) ≡ Some k) × (contents_at cut.left c ≡ k)
    on None e is = elim (subst IsArray (is ∙ ap (or_default (stream W64 [])) e) h) [ ]
    on (Some k) e is = (k, e, is ∙ ap (or_default (stream W64 [])) e)

-- where a container has a window
at-window : (cut : Overlaid) (memory : Shaped) (c : ℕ) (window : Window) → window_at cut.windows c ≡ Some window → IsArray (contents_at cut.left c) → contents_found 0 c (shown cut memory) ≡ Some (contents_at (source cut memory) c)
at-window cut memory c window is there =
    let k = left-there cut c there in
    shown-found cut memory c ∙ (λ i. option_map (pick (is i) (contents_at (source cut memory) c)) (k.1 i))

-- where it has none
at-none : (cut : Overlaid) (memory : Shaped) (c : ℕ) → window_at cut.windows c ≡ None → contents_found 0 c (shown cut memory) ≡ contents_found 0 c (alone cut.left)
at-none cut memory c is =
    shown-found cut memory c ∙ ap (λ w. option_map (pick w (contents_at (source cut memory) c)) (contents_found 0 c (alone cut.left))) is ∙ same (contents_found 0 c (alone cut.left))
  where
    same : (o : Option Contents) → option_map (pick None (contents_at (source cut memory) c)) o ≡ o
    same None = refl
    same (Some k) = refl

shown-width : (cut : Overlaid) (memory : Shaped) (c : ℕ) (k : Contents) → contents_found 0 c (shown cut memory) ≡ Some k → container_width 0 c (shown cut memory) ≡ width_of k
shown-width cut memory c k is = ap width_of (contents-found 0 c (shown cut memory) ∙ ap (or_default (stream W64 [])) is)

-- what is found there
window-element : (cut : Overlaid) (memory : Shaped) (c e : ℕ) (window : Window) → window_at cut.windows c ≡ Some window → IsArray (contents_at cut.left c) →
    element_found (outermost c e) (shown cut memory) ≡ element_found (outermost c e) (alone (source cut memory))
window-element cut memory c e window is there =
    ap (option_and_then (λ (k : Contents). slice_get (elements_of k) e)) (at-window cut memory c window is there) ∙ sym (element-at (source cut memory) c e)

-- an element that was cut has a window
has-window : (naming : Naming) (cut : Overlaid) (memory : Shaped) → IsWhole naming cut memory → (c k : ℕ) (one : CutElement) → cut_at cut.arrays c k ≡ Some one → (window : Window) × (window_at cut.windows c ≡ Some window)
has-window naming cut memory whole c k one is = on (window_at cut.windows c) refl
  where
    on : (o : Option Window) → window_at cut.windows c ≡ o → (window : Window) × (window_at cut.windows c ≡ Some window)
    on None e = let clash : None ≡ Some one = ap (λ l. slice_get l k) (sym (whole.none c e)) ∙ is in cc
    on (Some window) e = (window, e)

-- ---- names

same-named : (names : ℕ → Option ℕ) (k : Contents) → ((e n : ℕ) → names e ≡ Some n → e ≡ n) → AreContentsNamed names k k
same-named names (array w xs) h = (refl, λ e n q. ap (slice_get xs) (h e n q))
same-named names (stream w xs) h = (refl, refl)

arrays-named : (names : ℕ → Option ℕ) (k j : Contents) → IsArray k → IsArray j → width_of k ≡ width_of j → ((e n : ℕ) → names e ≡ Some n → slice_get (elements_of k) e ≡ slice_get (elements_of j) n) → AreContentsNamed names k j
arrays-named names (array w xs) (array v ys) a b same h = (same, h)
arrays-named names (array w xs) (stream v ys) a b same h = elim b [ ]
arrays-named names (stream w xs) j a b same h = elim a [ ]

pub ready-prepared : (naming : Naming) (cut : Overlaid) (memory : Shaped) → Fits naming cut memory → IsWhole naming cut memory → IsReady cut → Agrees cut memory →
    AreElementsOfWidth (alone cut.left) → AreElementsOfWidth (alone memory) → AreValuesOfWidth (alone cut.left) →
    (memories : Memories) × IsPrepared (marking_in naming cut) memories (alone (committed cut memory)) × AreMemoriesNamed naming 0 memories (alone cut.left)
ready-prepared naming cut memory fits whole ready agrees of_cut of_memory values = (shown cut memory, prepared, named)
  where
    merged : IsMerged naming (marking_in naming cut) (alone cut.left) (alone (committed cut memory)) (alone (committed cut memory))
    merged = committed-merged naming cut cut.left memory fits fits ready agrees (λ c. refl) of_cut of_cut of_memory values

    wide : (c : ℕ) → container_width 0 c (alone (committed cut memory)) ≡ width_at memory c
    wide c = width-changed (effects cut) c memory

    window_wide : (c : ℕ) (window : Window) → window_at cut.windows c ≡ Some window → container_width 0 c (shown cut memory) ≡ width_at memory c
    window_wide c window is = shown-width cut memory c (contents_at (source cut memory) c) (at-window cut memory c window is (whole.arrays c window is).1) ∙ source-width cut memory c

    stream_wide : (c : ℕ) (s : CutStream) → stream_at cut c ≡ Some s → container_width 0 c (shown cut memory) ≡ width_at memory c
    stream_wide c s is =
        ap width_of (contents-found 0 c (shown cut memory) ∙ ap (or_default (stream W64 [])) (at-none cut memory c (whole.streams c s is)) ∙ sym (contents-found 0 c (alone cut.left)))
        ∙ (fits.streams c s is).2

    -- an element that was cut, as it is shown
    shown_so : (c e k : ℕ) (one : CutElement) → naming c e ≡ Some k → cut_at cut.arrays c k ≡ Some one → element_found (outermost c e) (shown cut memory) ≡ element_found (outermost c k) (alone cut.left)
    shown_so c e k one n is =
        let w = has-window naming cut memory whole c k one is in
        window-element cut memory c e w.0 w.1 (whole.arrays c w.0 w.1).1 ∙ source-element naming cut memory fits of_cut c e k one n is

    element_wide : (c k : ℕ) (one : CutElement) → cut_at cut.arrays c k ≡ Some one → container_width 0 c (shown cut memory) ≡ width_at memory c
    element_wide c k one is = let w = has-window naming cut memory whole c k one is in window_wide c w.0 w.1

    kept_now : (c e : ℕ) → (marking_of naming cut.arrays).element c e ≡ kept → AgreeAt (reads_element (outermost c e)) (shown cut memory) (alone (committed cut memory))
    kept_now c e m = on (stands naming cut.arrays cut.left memory fits.numbered fits.one c e)
      where
        on : Stands naming cut.arrays cut.left memory c e → AgreeAt (reads_element (outermost c e)) (shown cut memory) (alone (committed cut memory))
        on (inl h) = elim (subst IsUntouched (sym h.0 ∙ m) tt) [ ]
        on (inr h) = (shown_so c e h.0 h.1 h.2 h.3 ∙ sym (merged.kept_so c e h.0 m h.2), element_wide c h.0 h.1 h.3 ∙ sym (wide c))

    gathered_now : (c e : ℕ) (by : Resolution) → (marking_of naming cut.arrays).element c e ≡ gathered by → HaveOneWidth 0 c (shown cut memory) (alone (committed cut memory))
        × ((identity : ℤ) × (identity_of by (container_width 0 c (shown cut memory)) ≡ Some identity) × (element_found (outermost c e) (shown cut memory) ≡ Some identity))
    gathered_now c e by m = on (stands naming cut.arrays cut.left memory fits.numbered fits.one c e)
      where
        on : Stands naming cut.arrays cut.left memory c e → HaveOneWidth 0 c (shown cut memory) (alone (committed cut memory))
            × ((identity : ℤ) × (identity_of by (container_width 0 c (shown cut memory)) ≡ Some identity) × (element_found (outermost c e) (shown cut memory) ≡ Some identity))
        on (inl h) = elim (subst (IsGathered by) (sym (sym h.0 ∙ m)) refl) [ ]
        on (inr h) =
            let f = fits.elements c h.0 h.1 h.3 in
            let same = element_wide c h.0 h.1 h.3 in (
              same ∙ sym (wide c),
              (
                look (element c h.0) (alone cut.left),
                ap (identity_of by) (same ∙ sym f.2) ∙ ready.gathered c h.0 h.1 by h.3 (gathered-mark h.1.mark by (sym h.5 ∙ m)),
                shown_so c e h.0 h.1 h.2 h.3 ∙ found-there cut.left c h.0 f.1,
              ),
            )

    stream_shown : (c : ℕ) (s : CutStream) → stream_at cut c ≡ Some s → stream_found 0 c (shown cut memory) ≡ stream_found 0 c (alone cut.left)
    stream_shown c s is = ap (option_and_then values_if) (at-none cut memory c (whole.streams c s is))

    prepared : IsPrepared (marking_in naming cut) (shown cut memory) (alone (committed cut memory))
    prepared = record {
      kept_so = kept_now;
      drained_so = λ c m. let of = marked-drained (stream_at cut c) m in (stream_shown c of.0 of.1 ∙ sym (merged.drained_so c m), stream_wide c of.0 of.1 ∙ sym (wide c));
      gathered_so = gathered_now;
      appended_so = λ c m.
          let of = marked-appended (stream_at cut c) m in
          let there = (fits.streams c of.0 of.1).1 in (
            stream_wide c of.0 of.1 ∙ sym (wide c),
            stream_shown c of.0 of.1 ∙ there.1 ∙ ap Some (sym (stream-there cut.left c there.0 there.1) ∙ ready.appended c of.0 of.1 of.2),
          );
    }

    named : AreMemoriesNamed naming 0 (shown cut memory) (alone cut.left)
    named zero c = by_window (window_at cut.windows c) refl
      where
        by_window : (o : Option Window) → window_at cut.windows c ≡ o → AreFoundNamed (naming c) (contents_found 0 c (shown cut memory)) (contents_found 0 c (alone cut.left))
        by_window None is = subst (λ o. AreFoundNamed (naming c) o (contents_found 0 c (alone cut.left))) (sym (at-none cut memory c is)) (both (contents_found 0 c (alone cut.left)))
          where
            both : (o : Option Contents) → AreFoundNamed (naming c) o o
            both None = tt
            both (Some k) = same-named (naming c) k (λ e n q. whole.stays c e n is q)
        by_window (Some window) is =
            let arrays = whole.arrays c window is in
            let k = left-there cut c arrays.1 in
            let one : AreContentsNamed (naming c) (contents_at (source cut memory) c) (contents_at cut.left c) =
            arrays-named (naming c) (contents_at (source cut memory) c) (contents_at cut.left c) (source-array cut memory c arrays.0) arrays.1 (source-width cut memory c ∙ sym arrays.2)
            (λ e n q.
            let found = whole.all c e n window is q in
            sym (element-at (source cut memory) c e) ∙ source-element naming cut memory fits of_cut c e n found.0 q found.1 ∙ element-at cut.left c n) in
            subst (λ o. AreFoundNamed (naming c) (contents_found 0 c (shown cut memory)) o) (sym k.1)
            (subst (λ o. AreFoundNamed (naming c) o (Some k.0)) (sym (at-window cut memory c window is arrays.1))
            (subst (AreContentsNamed (naming c) (contents_at (source cut memory) c)) k.2 one))
    named (suc level) c = tt
