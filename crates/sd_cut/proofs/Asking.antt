-- What is used of a cut has to be as it was no less than before.
use Rattle.std.proofs.Common.{◌≡◌, ℕ, zero, suc, ℤ, List, [], ◌∷◌, Option, Some, None, option_map, slice_get, Bool, true, false, refl, sym, ◌∙◌, subst}
use Rattle.sd_num.specs.Resolution.{identity_of}
use Rattle.sd_num.specs.declared.width.Width.{Width}
use Rattle.sd_num.specs.declared.resolution.Resolution.{Resolution}
use Rattle.sd_work.specs.Memory.{elements_of, look, waiting}
use Rattle.sd_work.specs.Change.{changed_at}
use Rattle.sd_mem.specs.mem.Shaped.{Shaped, alone, contents_at, element, width_at}
use Rattle.sd_cut.specs.declared.elements.CutElement.{CutElement}
use Rattle.sd_cut.specs.declared.elements.ElementMark.{ElementMark}
use Rattle.sd_cut.specs.declared.elements.ElementMark.TheVariants.{Untouched, Kept, Replaced, Gathered}
use Rattle.sd_cut.specs.declared.streams.CutStream.{CutStream}
use Rattle.sd_cut.specs.declared.streams.StreamUse.{StreamUse}
use Rattle.sd_cut.specs.declared.streams.StreamUse.TheVariants.{Unused, Drained, Appended}
use Rattle.sd_cut.specs.declared.turning.ElementLeft.{ElementLeft}
use Rattle.sd_cut.specs.Elements.{IfKept, AreAsCut, AreAllAsCut, cut_at, marked}
use Rattle.sd_cut.specs.Streams.{IfDrained, IsStreamAsCut, AreStreamsAsCut, stream_taken, stream_drained, stream_appended, appended_use}
use Rattle.sd_cut.specs.Turning.{kept_left, gathered_left, written_left, gathered_with, written_with, gathered_on, replaced_mark}
use Rattle.sd_cut.specs.Using.{turned, turned_if, pushed_in, pushed_to, taken_in, drained_at, appended_at, appended_if, is_begun, stream_at, Agrees}
use Rattle.sd_cut.specs.Overlaid.{Overlaid}

-- ---- one element

-- a turn of an element that asks no less
abbrev pub AsksNoLess : (Width → CutElement → ℤ → ElementLeft) → Type 1
AsksNoLess turn = (w : Width) (one : CutElement) (left : ℤ) (A : Type 0) → IfKept (turn w one left).mark A → IfKept one.mark A

if-asked : (mark : ElementMark) (A : Type 0) → A → IfKept mark A
if-asked Untouched A a = tt
if-asked Kept A a = a
if-asked Replaced A a = tt
if-asked (Gathered by) A a = tt

pub kept-asks : AsksNoLess kept_left
kept-asks w one left A h = if-asked one.mark A h

replaced-asks : (mark : ElementMark) (A : Type 0) → IfKept (replaced_mark mark) A → IfKept mark A
replaced-asks Untouched A h = tt
replaced-asks Kept A h = h
replaced-asks Replaced A h = tt
replaced-asks (Gathered by) A h = tt

gathered-on-asks : (mark : ElementMark) (by : Resolution) (identity : ℤ) (w : Width) (one : CutElement) (left : ℤ) (A : Type 0) → one.mark ≡ mark → IfKept (gathered_on mark by identity w one left).mark A → IfKept one.mark A
gathered-on-asks Untouched by identity w one left A is h = subst (λ m. IfKept m A) (sym is) tt
gathered-on-asks Kept by identity w one left A is h = h
gathered-on-asks Replaced by identity w one left A is h = h
gathered-on-asks (Gathered other) by identity w one left A is h = subst (λ m. IfKept m A) (sym is) tt

pub gathered-asks : (by : Resolution) → AsksNoLess (gathered_left by)
gathered-asks by w one left A h = on (identity_of by w) h
  where
    on : (o : Option ℤ) → IfKept (gathered_with o by w one left).mark A → IfKept one.mark A
    on None h = if-asked one.mark A h
    on (Some identity) h = gathered-on-asks one.mark by identity w one left A refl h

pub written-asks : (by : Option Resolution) (value : ℤ) → AsksNoLess (written_left by value)
written-asks None value w one left A h = replaced-asks one.mark A h
written-asks (Some by) value w one left A h = on (identity_of by w) h
  where
    on : (o : Option ℤ) → IfKept (written_with o by value w one left).mark A → IfKept one.mark A
    on None h = replaced-asks one.mark A h
    on (Some identity) h = gathered-on-asks one.mark by identity w one left A refl h

-- ---- all elements

same-some : {A : Type 0} (x y : A) → Some x ≡ Some y → x ≡ y
same-some x y e = cc

cuts-ask : (elements : List ℤ) (cuts : List CutElement) (n : ℕ) (mark : ElementMark) → ((one : CutElement) → slice_get cuts n ≡ Some one → (A : Type 0) → IfKept mark A → IfKept one.mark A) →
    AreAsCut elements (changed_at n (marked mark) cuts) → AreAsCut elements cuts
cuts-ask elements [] n mark f h = tt
cuts-ask elements (one ∷ cuts) zero mark f h = (f one refl (slice_get elements one.place ≡ Some one.opening) h.0, h.1)
cuts-ask elements (one ∷ cuts) (suc n) mark f h = (h.0, cuts-ask elements cuts n mark f h.1)

arrays-ask : (memory : Shaped) (d c n : ℕ) (mark : ElementMark) (arrays : List (List CutElement)) → ((one : CutElement) → cut_at arrays c n ≡ Some one → (A : Type 0) → IfKept mark A → IfKept one.mark A) →
    AreAllAsCut memory d (changed_at c (changed_at n (marked mark)) arrays) → AreAllAsCut memory d arrays
arrays-ask memory d c n mark [] f h = tt
arrays-ask memory d zero n mark (cuts ∷ arrays) f h = (cuts-ask (elements_of (contents_at memory d)) cuts n mark f h.0, h.1)
arrays-ask memory d (suc c) n mark (cuts ∷ arrays) f h = (h.0, arrays-ask memory (suc d) c n mark arrays f h.1)

pub turned-agrees : (turn : Width → CutElement → ℤ → ElementLeft) → AsksNoLess turn → (c n : ℕ) (cut : Overlaid) (memory : Shaped) → Agrees (turned turn c n cut) memory → Agrees cut memory
turned-agrees turn asks c n cut memory h = on (cut_at cut.arrays c n) refl h
  where
    on : (o : Option CutElement) → cut_at cut.arrays c n ≡ o → Agrees (turned_if turn c n o cut) memory → Agrees cut memory
    on None is h = h
    on (Some one) is h = (
      arrays-ask memory 0 c n (turn (width_at cut.left c) one (look (element c n) (alone cut.left))).mark cut.arrays
          (λ other found A asked. subst (λ (t : CutElement). IfKept t.mark A) (same-some one other (sym is ∙ found)) (asks (width_at cut.left c) one (look (element c n) (alone cut.left)) A asked)) h.0,
      h.1,
    )

-- ---- streams

abbrev StreamAsks : (CutStream → CutStream) → Type 0
StreamAsks f = (values : List ℤ) (s : CutStream) → IfDrained (f s).usage (values ≡ (f s).opening) → IfDrained s.usage (values ≡ s.opening)

if-drained : (u : StreamUse) (A : Type 0) → A → IfDrained u A
if-drained Unused A a = tt
if-drained Drained A a = a
if-drained Appended A a = tt

taken-asks : StreamAsks stream_taken
taken-asks values s h = if-drained s.usage (values ≡ s.opening) h

drained-asks : StreamAsks stream_drained
drained-asks values s h = if-drained s.usage (values ≡ s.opening) h

appended-asks : StreamAsks stream_appended
appended-asks values s h = on s.usage h
  where
    on : (u : StreamUse) → IfDrained (appended_use u) (values ≡ s.opening) → IfDrained u (values ≡ s.opening)
    on Unused h = tt
    on Drained h = h
    on Appended h = tt

streams-ask : (f : CutStream → CutStream) → StreamAsks f → (memory : Shaped) (d c : ℕ) (streams : List (Option CutStream)) → AreStreamsAsCut memory d (changed_at c (option_map f) streams) → AreStreamsAsCut memory d streams
streams-ask f asks memory d c [] h = tt
streams-ask f asks memory d zero (s ∷ streams) h = (one s h.0, h.1)
  where
    one : (s : Option CutStream) → IsStreamAsCut (waiting 0 d (alone memory)) (option_map f s) → IsStreamAsCut (waiting 0 d (alone memory)) s
    one None h = tt
    one (Some s) h = asks (waiting 0 d (alone memory)) s h
streams-ask f asks memory d (suc c) (s ∷ streams) h = (h.0, streams-ask f asks memory (suc d) c streams h.1)

pub pushed-agrees : (c : ℕ) (value : ℤ) (cut : Overlaid) (memory : Shaped) → Agrees (pushed_in c value cut) memory → Agrees cut memory
pushed-agrees c value cut memory h = (h.0, streams-ask stream_appended appended-asks memory 0 c cut.streams h.1)

pub taken-agrees : (c : ℕ) (cut : Overlaid) (memory : Shaped) → Agrees (taken_in c cut) memory → Agrees cut memory
taken-agrees c cut memory h = (h.0, streams-ask stream_taken taken-asks memory 0 c cut.streams h.1)

pub drained-agrees : (c : ℕ) (cut : Overlaid) (memory : Shaped) → Agrees (drained_at c cut) memory → Agrees cut memory
drained-agrees c cut memory h = (h.0, streams-ask stream_drained drained-asks memory 0 c cut.streams h.1)

pub appended-agrees : (c : ℕ) (cut : Overlaid) (memory : Shaped) → Agrees (appended_at c cut) memory → Agrees cut memory
appended-agrees c cut memory h = on (is_begun (stream_at cut c) (pushed_to cut c)) h
  where
    on : (begun : Bool) → Agrees (appended_if begun c cut) memory → Agrees cut memory
    on true h = drained-agrees c cut memory h
    on false h = (h.0, streams-ask stream_appended appended-asks memory 0 c cut.streams h.1)
