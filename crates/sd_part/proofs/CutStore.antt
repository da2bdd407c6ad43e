-- What was cut of a memory as a store: marks leave what it stands for as it is, and what is left may be lent.
use Rattle.std.proofs.Common.{◌≡◌, inl, inr, ℕ, suc, ◌+◌, ℤ, List, [], ◌∷◌, ◌++◌, map, drop, length, Option, Some, None, Bool, true, false, if◌then◌else◌, slice_get, slice_index_or, Result, Ok, Err, refl, sym, ◌∙◌, ap, subst, arith}
use Rattle.std.specs.List.{fold}
use Rattle.std.specs.Result.{OnErr}
use Rattle.sd_num.specs.Width.{wrapped_to, IsElement}
use Rattle.sd_num.specs.Resolution.{identity_of}
use Rattle.sd_num.specs.declared.width.Width.{Width}
use Rattle.sd_num.specs.declared.resolution.Resolution.{Resolution}
use Rattle.sd_num.proofs.StoredLemmas.{wrapped_to-twice, wrapped_to-element}
use Rattle.sd_work.specs.Memory.{Memory, Memories, elements_of, look, waiting}
use Rattle.sd_work.specs.Change.{Change}
use Rattle.sd_pieces.specs.course.Reading.{element_found, stream_found}
use Rattle.sd_pieces.specs.course.Shape.{stack_shape}
use Rattle.sd_pieces.specs.cut.Naming.{Naming}
use Rattle.sd_pieces.specs.cut.Merged.{untouched, unused, outermost, Marking, IsPrepared, IsMerged, AreElementsOfWidth}
use Rattle.sd_pieces.proofs.course_lemmas.Readings.{if_found}
use Rattle.sd_pieces.proofs.course_lemmas.Shapes.{shape-after}
use Rattle.sd_pieces.proofs.cut_lemmas.OneMerged.{one-merged}
use Rattle.sd_graph.specs.ContainerParts.{Containers}
use Rattle.sd_mem.specs.mem.Shaped.{Shaped, alone, contents_at, width_at, element}
use Rattle.sd_cut.specs.declared.elements.CutElement.{CutElement}
use Rattle.sd_cut.specs.declared.elements.ElementMark.{ElementMark}
use Rattle.sd_cut.specs.declared.elements.ElementMark.TheVariants.{Untouched, Kept, Replaced, Gathered}
use Rattle.sd_cut.specs.declared.streams.CutStream.{CutStream}
use Rattle.sd_cut.specs.declared.streams.StreamUse.{StreamUse}
use Rattle.sd_cut.specs.declared.streams.StreamUse.TheVariants.{Unused, Drained, Appended}
use Rattle.sd_cut.specs.Elements.{all_changed, all_effects, cut_at, IfKept, AreAsCut, AreAllAsCut}
use Rattle.sd_cut.specs.Streams.{all_pushes, all_takes, stream_becomes, taken_by, pushed_by, IfDrained, IsStreamAsCut, AreStreamsAsCut}
use Rattle.sd_cut.specs.Turning.{kept_left, gathered_left}
use Rattle.sd_cut.specs.Using.{effects, committed, stream_at, pushed_to, drained_at, appended_if, is_begun, Agrees}
use Rattle.sd_cut.specs.Fits.{marking_in, with_left, Fits, IsReady, IsWhole, AreValuesOfWidth}
use Rattle.sd_cut.specs.Windowed.{numbers_in}
use Rattle.sd_cut.specs.Overlaid.{Overlaid}
use Rattle.sd_cut.proofs.Performing.{alone-changed}
use Rattle.sd_cut.proofs.Merging.{stands, Stands, marked_by, found-there, kept-is}
use Rattle.sd_cut.proofs.Committed.{streamed, committed-is, streamed-element, width-changed, committed-stream}
use Rattle.sd_cut.proofs.Merged.{drained-is, stream-there, committed-merged}
use Rattle.sd_cut.proofs.Prepared.{ready-prepared}
use Rattle.sd_cut.specs.Marked.{AreAccessesMarked}
use Rattle.sd_part.specs.Boxes.{NumberBox}
use Rattle.sd_part.specs.Hulls.{is_of_elements, AreWindowsFor}
use Rattle.sd_part.specs.Marks.{resolution_among, numbers_among, is_taken_from}
use Rattle.sd_part.specs.Marking.{with_mark, with_marks, with_stream, with_box, with_boxes, AreStreamsCut}
use Rattle.sd_part.specs.Store.{AreMarkedFor, IsLentFor, IsMergedBack}
use Rattle.sd_part.specs.Cut.{IsMadeFor, MayBeLent, StandsFor, IsCutFor}
use Rattle.sd_part.proofs.Frames.{HaveOneFrame, frame-left, fits-by, whole-by, width-there}
use Rattle.sd_part.proofs.MarkedBoxes.{windows-shaped}
use Rattle.sd_part.proofs.MarkedOverlay.{overlay-marked}
use Rattle.sd_part.proofs.Quiet.{IsQuietElement, IsQuietStream, IsQuiet, IsMarkedOn, marked-self, marked-both, turned-marked, kept-quiet, gathered-quiet, identity-right, drained-marked, appended-marked}

-- ---- the marks of boxes

mark-marked : (by : Option Resolution) (c n : ℕ) (cut : Overlaid) → IsMarkedOn cut (with_mark by c n cut)
mark-marked None c n cut = turned-marked kept_left kept-quiet c n cut
mark-marked (Some by) c n cut = turned-marked (gathered_left by) (gathered-quiet by) c n cut

marks-marked : (by : Option Resolution) (c : ℕ) (numbers : List ℕ) (cut : Overlaid) → IsMarkedOn cut (with_marks by c numbers cut)
marks-marked by c [] cut = marked-self cut
marks-marked by c (n ∷ numbers) cut =
    marked-both cut (with_mark by c n cut) (with_marks by c numbers (with_mark by c n cut)) (mark-marked by c n cut) (marks-marked by c numbers (with_mark by c n cut))

stream-marked : (boxes : List NumberBox) (d : ℕ) (cut : Overlaid) → IsMarkedOn cut (with_stream boxes d cut)
stream-marked boxes d cut = on (is_taken_from boxes d) (is_begun (stream_at cut d) (pushed_to cut d))
  where
    on : (a b : Bool) → IsMarkedOn cut (if a then drained_at d cut else appended_if b d cut)
    on true b = drained-marked d cut
    on false true = drained-marked d cut
    on false false = appended-marked d cut

box-marked : (boxes : List NumberBox) (cut : Overlaid) (box : NumberBox) → IsMarkedOn cut (with_box boxes cut box)
box-marked boxes cut box = on (is_of_elements box.mode)
  where
    on : (b : Bool) → IsMarkedOn cut (if b then with_marks (resolution_among boxes box.container box.mode) box.container (numbers_among boxes box) cut else with_stream boxes box.container cut)
    on true = marks-marked (resolution_among boxes box.container box.mode) box.container (numbers_among boxes box) cut
    on false = stream-marked boxes box.container cut

pub boxes-marked : (boxes some : List NumberBox) (cut : Overlaid) → IsMarkedOn cut (fold (with_box boxes) cut some)
boxes-marked boxes [] cut = marked-self cut
boxes-marked boxes (box ∷ some) cut =
    marked-both cut (with_box boxes cut box) (fold (with_box boxes) (with_box boxes cut box) some) (box-marked boxes cut box) (boxes-marked boxes some (with_box boxes cut box))

-- ---- a cut that nothing has touched

pub fresh-quiet : (boxes : List NumberBox) (cut : Overlaid) (containers : Containers) (over : Shaped) → IsCutFor boxes cut → IsMadeFor cut containers over → IsQuiet cut
fresh-quiet boxes cut containers over for made = record {
  elements = λ c k one is. subst (λ mark. IsQuietElement mark (width_at cut.left c) one.opening (look (element c k) (alone cut.left))) (sym (for.fresh.untouched c k one is)) tt;
  streams = λ c s is.
      let free = for.unused c s is in
      subst (λ usage. IsQuietStream usage s.taken (width_at cut.left c) s.opening (pushed_to cut c)) (sym free.usage) (free.taken, free.pushed);
  within = λ c k one is. (made.fits.elements c k one is).1;
  there = λ c s is. (made.fits.streams c s is).1;
}

as-untouched : (elements : List ℤ) (cuts : List CutElement) → ((k : ℕ) (one : CutElement) → slice_get cuts k ≡ Some one → one.mark ≡ Untouched) → AreAsCut elements cuts
as-untouched elements [] all = tt
as-untouched elements (one ∷ cuts) all =
    (subst (λ mark. IfKept mark (slice_get elements one.place ≡ Some one.opening)) (sym (all 0 one refl)) tt, as-untouched elements cuts (λ k other is. all (suc k) other is))

all-untouched : (over : Shaped) (d : ℕ) (arrays : List (List CutElement)) → ((c k : ℕ) (one : CutElement) → cut_at arrays c k ≡ Some one → one.mark ≡ Untouched) → AreAllAsCut over d arrays
all-untouched over d [] all = tt
all-untouched over d (cuts ∷ arrays) all = (as-untouched (elements_of (contents_at over d)) cuts (all 0), all-untouched over (suc d) arrays (λ c k one is. all (suc c) k one is))

streams-unused : (over : Shaped) (d : ℕ) (streams : List (Option CutStream)) → ((c : ℕ) (s : CutStream) → slice_index_or streams c None ≡ Some s → s.usage ≡ Unused) → AreStreamsAsCut over d streams
streams-unused over d [] all = tt
streams-unused over d (s ∷ streams) all = (one s (all 0), streams-unused over (suc d) streams (λ c other is. all (suc c) other is))
  where
    one : (o : Option CutStream) → ((s : CutStream) → o ≡ Some s → s.usage ≡ Unused) → IsStreamAsCut (waiting 0 d (alone over)) o
    one None h = tt
    one (Some s) h = subst (λ usage. IfDrained usage (waiting 0 d (alone over) ≡ s.opening)) (sym (h s refl)) tt

fresh-agrees : (boxes : List NumberBox) (cut : Overlaid) (over : Shaped) → IsCutFor boxes cut → Agrees cut over
fresh-agrees boxes cut over for = (all-untouched over 0 cut.arrays for.fresh.untouched, streams-unused over 0 cut.streams (λ c s is. (for.unused c s is).usage))

-- ---- work may run on it

gathered-at : (mark : ElementMark) (by : Resolution) (w : Width) (opening left : ℤ) → mark ≡ Gathered by → IsQuietElement mark w opening left → identity_of by w ≡ Some left
gathered-at mark by w opening left is q = subst (λ m. IsQuietElement m w opening left) is q

quiet-ready : (cut : Overlaid) → IsQuiet cut → IsReady cut
quiet-ready cut q = record {
  gathered = λ c k one by is mark. gathered-at one.mark by (width_at cut.left c) one.opening (look (element c k) (alone cut.left)) mark (q.elements c k one is);
  drained = λ c s is usage. (subst (λ u. IsQuietStream u s.taken (width_at cut.left c) s.opening (pushed_to cut c)) usage (q.streams c s is)).0;
  appended = λ c s is usage. (subst (λ u. IsQuietStream u s.taken (width_at cut.left c) s.opening (pushed_to cut c)) usage (q.streams c s is)).1;
}

-- ---- what is committed of it

append-none : {A : Type 0} (xs : List A) → xs ++ [] ≡ xs
append-none [] = refl
append-none (x ∷ xs) = ap (λ l. x ∷ l) (append-none xs)

drop-past : {A : Type 0} (xs ys : List A) → drop (length xs) (xs ++ ys) ≡ ys
drop-past [] ys = refl
drop-past (x ∷ xs) ys = drop-past xs ys

wrapped-twice : (w : Width) (values : List ℤ) → map (wrapped_to w) (map (wrapped_to w) values) ≡ map (wrapped_to w) values
wrapped-twice w [] = refl
wrapped-twice w (v ∷ values) = λ i. wrapped_to-twice w v i ∷ wrapped-twice w values i

-- an element stays
element-stays : (mark : ElementMark) (w : Width) (opening left old : ℤ) → IsElement w old → (mark ≡ Kept → opening ≡ old) → IsQuietElement mark w opening left → marked_by w mark left old ≡ old
element-stays Untouched w opening left old fits kept q = refl
element-stays Kept w opening left old fits kept q = ap (wrapped_to w) (q ∙ ap (wrapped_to w) (kept refl)) ∙ wrapped_to-twice w old ∙ wrapped_to-element w old fits
element-stays Replaced w opening left old fits kept q = absurd q
element-stays (Gathered by) w opening left old fits kept q = identity-right w by old left q ∙ wrapped_to-element w old fits

same-some : {A : Type 0} (x y : A) → Some x ≡ Some y → x ≡ y
same-some x y e = cc

elements-stay : (naming : Naming) (cut : Overlaid) (over : Shaped) → Fits naming cut over → IsQuiet cut → Agrees cut over → AreElementsOfWidth (alone over) → (c e : ℕ) →
    element_found (outermost c e) (alone (committed cut over)) ≡ element_found (outermost c e) (alone over)
elements-stay naming cut over fits q agrees widths c e =
    ap (λ (m : Shaped). element_found (outermost c e) (alone m)) (committed-is cut over) ∙ on (stands naming cut.arrays cut.left (streamed cut over) fits.numbered fits.one c e)
  where
    on : Stands naming cut.arrays cut.left (streamed cut over) c e →
        element_found (outermost c e) (alone (all_changed (all_effects 0 cut.left cut.arrays) (streamed cut over))) ≡ element_found (outermost c e) (alone over)
    on (inl h) = h.1 ∙ streamed-element cut over c e
    on (inr h) =
        let one = h.1 in
        let left = look (element c h.0) (alone cut.left) in
        let old = look (element c e) (alone over) in
        let there : element_found (outermost c e) (alone over) ≡ Some old =
        subst (λ p. element_found (outermost c p) (alone over) ≡ Some (look (element c p) (alone over))) h.4 (found-there over c one.place (fits.elements c h.0 one h.3).0) in
        let wide : width_at cut.left c ≡ width_at (streamed cut over) c = (fits.elements c h.0 one h.3).2 ∙ sym (width-changed (all_pushes 0 cut.left cut.streams ++ all_takes 0 cut.streams) c over) in
        let as_cut : one.mark ≡ Kept → one.opening ≡ old =
        λ mark. same-some one.opening old (sym (kept-is cut.arrays over agrees.0 c h.0 one h.3 mark) ∙ ap (λ p. element_found (outermost c p) (alone over)) h.4 ∙ there) in
        h.6
        ∙ ap (if_found (marked_by (width_at (streamed cut over) c) one.mark left)) (streamed-element cut over c e ∙ there)
        ∙ ap Some (element-stays one.mark (width_at (streamed cut over) c) one.opening left old
        (subst (λ w. IsElement w old) ((sym (fits.elements c h.0 one h.3).2) ∙ wide) (widths c e old there)) as_cut
        (subst (λ w. IsQuietElement one.mark w one.opening left) wide (q.elements c h.0 one h.3)))
        ∙ sym there

stream-stays : (w : Width) (s : CutStream) (pushed values : List ℤ) → (s.usage ≡ Drained → values ≡ s.opening) → map (wrapped_to w) values ≡ values → IsQuietStream s.usage s.taken w s.opening pushed →
    stream_becomes w (Some s) pushed values ≡ values
stream-stays w s pushed values as_cut fit q = on s.usage refl q
  where
    on : (usage : StreamUse) → s.usage ≡ usage → IsQuietStream usage s.taken w s.opening pushed → drop (taken_by s.usage s.taken) (values ++ map (wrapped_to w) (pushed_by s.usage pushed)) ≡ values
    on Unused is h = (λ i. drop (taken_by (is i) s.taken) (values ++ map (wrapped_to w) (pushed_by (is i) pushed))) ∙ append-none values
    on Drained is h =
        let own = as_cut is in
        (λ i. drop (taken_by (is i) s.taken) (values ++ map (wrapped_to w) (pushed_by (is i) pushed)))
        ∙ (λ i. drop (h.0 i) (own i ++ map (wrapped_to w) (h.1 i)))
        ∙ drop-past s.opening (map (wrapped_to w) (map (wrapped_to w) s.opening))
        ∙ wrapped-twice w s.opening
        ∙ ap (map (wrapped_to w)) (sym own)
        ∙ fit
    on Appended is h =
        (λ i. drop (taken_by (is i) s.taken) (values ++ map (wrapped_to w) (pushed_by (is i) pushed))) ∙ ap (λ l. values ++ map (wrapped_to w) l) h.1 ∙ append-none values

streams-stay : (cut : Overlaid) (over : Shaped) → IsQuiet cut → ((c : ℕ) (s : CutStream) → stream_at cut c ≡ Some s → width_at cut.left c ≡ width_at over c) → Agrees cut over → AreValuesOfWidth (alone over) → (c : ℕ) →
    stream_found 0 c (alone (committed cut over)) ≡ stream_found 0 c (alone over)
streams-stay cut over q wide agrees fit c = committed-stream cut over c ∙ on (stream_found 0 c (alone over)) refl
  where
    on : (o : Option (List ℤ)) → stream_found 0 c (alone over) ≡ o → if_found (stream_becomes (width_at over c) (stream_at cut c) (pushed_to cut c)) o ≡ o
    on None is = refl
    on (Some values) is = ap Some (by (stream_at cut c) refl)
      where
        here : 0 + c ≡ c
        here = omega arith

        by : (s : Option CutStream) → stream_at cut c ≡ s → stream_becomes (width_at over c) s (pushed_to cut c) values ≡ values
        by None at = append-none values
        by (Some s) at =
            stream-stays (width_at over c) s (pushed_to cut c) values
            (λ usage. sym (stream-there over c values is) ∙ drained-is over 0 c cut.streams c s here agrees.1 at usage)
            (fit c values is)
            (subst (λ w. IsQuietStream s.usage s.taken w s.opening (pushed_to cut c)) (wide c s at) (q.streams c s at))

-- nothing is marked
abbrev none_marked : Marking
none_marked = record { element = λ c e. untouched; stream = λ c. unused }

abbrev no_numbers : Naming
no_numbers c e = None

-- memories in which all stays
all-stays : (before after : Memories) → stack_shape after ≡ stack_shape before → drop 1 after ≡ drop 1 before → ((c e : ℕ) → element_found (outermost c e) after ≡ element_found (outermost c e) before) →
    ((c : ℕ) → stream_found 0 c after ≡ stream_found 0 c before) → IsMerged no_numbers none_marked before before after
all-stays before after shape deeper elements streams = record {
  shape_so = shape;
  deeper_so = deeper;
  untouched_so = λ c e is. elements c e;
  unused_so = λ c is. streams c;
  unnumbered_so = λ c e is. elements c e;
  kept_so = λ c e n is. cc;
  drained_so = λ c is. cc;
  gathered_so = λ c e n by old is. cc;
  appended_so = λ c values is. cc;
}

shapes-stay : (changes : List Change) (over : Shaped) → (all_changed changes over).shapes ≡ over.shapes
shapes-stay [] over = refl
shapes-stay (change ∷ changes) over = shapes-stay changes _

abbrev first-of : Memories → Memory
first-of [] = []
first-of (m ∷ memories) = m

pub quiet-committed : (naming : Naming) (cut : Overlaid) (over : Shaped) → Fits naming cut over → IsQuiet cut → Agrees cut over → AreElementsOfWidth (alone over) → AreValuesOfWidth (alone over) → committed cut over ≡ over
quiet-committed naming cut over fits q agrees elements values =
    (λ i. record { shapes = shapes-stay (effects cut) over i; contents = ap first-of same i })
  where
    same : alone (committed cut over) ≡ alone over
    same =
        one-merged no_numbers none_marked (alone over) (alone over) (alone (committed cut over)) (alone over) elements
        (all-stays (alone over) (alone (committed cut over)) (ap stack_shape (alone-changed (effects cut) over) ∙ shape-after (effects cut) (alone over)) refl
        (elements-stay naming cut over fits q agrees elements) (streams-stay cut over q (λ c s is. (fits.streams c s is).2) agrees values))
        (all-stays (alone over) (alone over) refl refl (λ c e. refl) (λ c. refl))

-- ---- a cut that boxes mark

-- what was made for a memory still is where something else of the same frame is left
pub made-by : (cut other : Overlaid) (containers : Containers) (over : Shaped) → HaveOneFrame cut other → IsMadeFor other containers over → IsMadeFor cut containers over
made-by cut other containers over frame made = record {
  fits = subst (λ w. Fits (numbers_in containers w) cut over) (sym frame.windows) (fits-by (numbers_in containers other.windows) cut other over frame made.fits);
  whole = subst (λ w. IsWhole (numbers_in containers w) cut over) (sym frame.windows) (whole-by (numbers_in containers other.windows) cut other over frame made.whole);
  elements = made.elements;
  values = made.values;
}

-- it stands for the memory that it was made for
pub marked-stands : (boxes some : List NumberBox) (cut after : Overlaid) (containers : Containers) (over now : Shaped) → IsCutFor boxes cut → IsMadeFor cut containers over → after ≡ fold (with_box boxes) cut some → StandsFor after over now →
    now ≡ over
marked-stands boxes some cut after containers over now for made is stands_so =
    let marked : IsMarkedOn cut after = subst (IsMarkedOn cut) (sym is) (boxes-marked boxes some cut) in
    let after_made = made-by after cut containers over marked.frame made in
    stands_so.done ∙ quiet-committed (numbers_in containers after.windows) after over after_made.fits (marked.quiet (fresh-quiet boxes cut containers over for made)) stands_so.agrees made.elements made.values

pub fresh-stands : (boxes : List NumberBox) (cut : Overlaid) (containers : Containers) (over now : Shaped) → IsCutFor boxes cut → IsMadeFor cut containers over → now ≡ over → StandsFor cut over now
fresh-stands boxes cut containers over now for made same = record {
  agrees = fresh-agrees boxes cut over for;
  done = same ∙ sym (quiet-committed (numbers_in containers cut.windows) cut over made.fits (fresh-quiet boxes cut containers over for made) (fresh-agrees boxes cut over for) made.elements made.values);
}

-- where marks are wanting memory, it stood for that before
pub still-stands : (boxes some : List NumberBox) (cut after : Overlaid) (containers : Containers) (over now : Shaped) → IsCutFor boxes cut → after ≡ fold (with_box boxes) cut some → IsMadeFor cut containers over → StandsFor after over now →
    StandsFor cut over now
still-stands boxes some cut after containers over now for is made stands_so = fresh-stands boxes cut containers over now for made (marked-stands boxes some cut after containers over now for made is stands_so)

-- what is lent of it
pub marked-lent : (boxes : List NumberBox) (cut after : Overlaid) (containers : Containers) (over : Shaped) → IsCutFor boxes cut → after ≡ with_boxes boxes cut → IsMadeFor cut containers over → MayBeLent after containers over
marked-lent boxes cut after containers over for is made =
    let marked : IsMarkedOn cut after = subst (IsMarkedOn cut) (sym is) (boxes-marked boxes boxes cut) in
    record {
      made = made-by after cut containers over marked.frame made;
      ready = quiet-ready after (marked.quiet (fresh-quiet boxes cut containers over for made));
      elements = marked.elements for.elements;
    }

pub lends-so : (boxes : List NumberBox) (cut after : Overlaid) (containers : Containers) (over now : Shaped) → IsCutFor boxes cut → after ≡ with_boxes boxes cut → IsMadeFor cut containers over → StandsFor after over now →
    StandsFor cut over now × IsLentFor containers after.windows (marking_in (numbers_in containers after.windows) after) after.left now
lends-so boxes cut after containers over now for is made stands_so =
    let marked : IsMarkedOn cut after = subst (IsMarkedOn cut) (sym is) (boxes-marked boxes boxes cut) in
    let lent = marked-lent boxes cut after containers over for is made in
    let same = marked-stands boxes boxes cut after containers over now for made is stands_so in
    let ready = ready-prepared (numbers_in containers after.windows) after over lent.made.fits lent.made.whole lent.ready stands_so.agrees lent.elements made.elements (marked.values for.values) in (
      fresh-stands boxes cut containers over now for made same,
      record {
        widths = subst (λ (m : Shaped). AreElementsOfWidth (alone m)) (sym same) made.elements;
        lent_widths = lent.elements;
        lent_values = marked.values for.values;
        memories = ready.0;
        prepared = subst (λ (m : Shaped). IsPrepared (marking_in (numbers_in containers after.windows) after) ready.0 (alone m)) (sym stands_so.done) ready.1;
        named = ready.2;
      },
    )

-- its marks are those of the boxes
pub marks-so : (boxes : List NumberBox) (cut after : Overlaid) (containers : Containers) → IsCutFor boxes cut → after ≡ with_boxes boxes cut → AreMarkedFor boxes containers after.windows (marking_in (numbers_in containers after.windows) after)
marks-so boxes cut after containers for is =
    let marked : IsMarkedOn cut after = subst (IsMarkedOn cut) (sym is) (boxes-marked boxes boxes cut) in
    subst (λ w. AreMarkedFor boxes containers w (marking_in (numbers_in containers w) after)) (sym marked.frame.windows)
    (subst (λ (o : Overlaid). AreMarkedFor boxes containers cut.windows (marking_in (numbers_in containers cut.windows) o)) (sym is) (record {
      dimensions = λ values accesses are. windows-shaped containers values accesses cut.windows (subst (λ b. AreWindowsFor b cut.windows) are for.windows);
      marked = λ values accesses are.
          subst (λ b. AreAccessesMarked containers values (numbers_in containers cut.windows) (marking_in (numbers_in containers cut.windows) (with_boxes b cut)) accesses) (sym are)
          (overlay-marked containers values accesses cut.windows cut (subst (λ b. AreWindowsFor b cut.windows) are for.windows) for.fresh (subst (λ b. AreStreamsCut b cut) are for.streams));
    }))

-- ---- what is taken back

pub taken-back : (cut : Overlaid) (containers : Containers) (lent left over after : Shaped) → MayBeLent (with_left lent cut) containers over → StandsFor (with_left left cut) over after →
    (now : Shaped) × StandsFor (with_left lent cut) over now × IsMergedBack containers cut.windows (marking_in (numbers_in containers cut.windows) cut) lent left now after
taken-back cut containers lent left over after may stands_so = (
  committed (with_left lent cut) over,
  record { agrees = stands_so.agrees; done = refl },
  λ same elements values.
      let frame = frame-left cut left lent same in
      subst (λ (m : Shaped). IsMerged (numbers_in containers cut.windows) (marking_in (numbers_in containers cut.windows) cut) (alone left) (alone (committed (with_left lent cut) over)) (alone m)) (sym stands_so.done)
      (committed-merged (numbers_in containers cut.windows) (with_left lent cut) left over may.made.fits
      (fits-by (numbers_in containers cut.windows) (with_left left cut) (with_left lent cut) over frame may.made.fits) may.ready stands_so.agrees
      (width-there (with_left left cut) (with_left lent cut) frame) may.elements elements may.made.elements values),
)

-- ---- the code's words

pub windows-stay : (boxes some : List NumberBox) (cut after : Overlaid) → after ≡ fold (with_box boxes) cut some → after.windows ≡ cut.windows
windows-stay boxes some cut after is = ap (λ (o : Overlaid). o.windows) is ∙ (boxes-marked boxes some cut).frame.windows

pub on-err : {A E : Type 0} {P : Type 0} (result : Result A E) → P → OnErr result P
on-err (Ok value) held = tt
on-err (Err error) held = held
