-- What was just cut may be lent, and was made for each memory of the shape of the one that it was cut of.
use Rattle.std.proofs.Common.{◌≡◌, ◌⊎◌, inl, inr, ℕ, zero, suc, ◌+◌, ◌<◌, ◌≤◌, ◌==◌, nat_eq, ℤ, List, [], ◌∷◌, ◌++◌, map, length, Option, Some, None, option_map, Bool, true, false, not, if◌then◌else◌, slice_get, slice_index_or, refl, sym, ◌∙◌, ap, subst, arith}
use Rattle.std.specs.List.{Contains, filter}
use Rattle.std.specs.Option.{option_and_then}
use Rattle.std.proofs.lemmas.List.{length-map}
use Rattle.sd_num.specs.Width.{wrapped_to, IsElement}
use Rattle.sd_num.specs.declared.width.Width.{Width}
use Rattle.sd_num.specs.declared.width.Width.TheVariants.{W64}
use Rattle.sd_num.proofs.StoredLemmas.{IsElement-wrapped_to}
use Rattle.sd_range.specs.Points.{product}
use Rattle.sd_range.specs.Subset.{inside, whole}
use Rattle.sd_range.proofs.Members.{Contains-nil, Contains-cases}
use Rattle.sd_work.specs.Memory.{Contents, array, stream, Memory, width_of, elements_of, values_of, waiting}
use Rattle.sd_pieces.specs.course.Reading.{stream_found, values_if, container_width}
use Rattle.sd_pieces.specs.course.Shape.{array_length, contents_shape}
use Rattle.sd_pieces.specs.cut.Merged.{AreElementsOfWidth}
use Rattle.sd_graph.specs.ContainerParts.{Containers, container_at, extents_of}
use Rattle.sd_graph.specs.RowOrder.{row_number}
use Rattle.sd_graph.specs.Wiring.{has_number}
use Rattle.sd_graph.proofs.RowNumbers.{row_number_below}
use Rattle.sd_mem.specs.mem.Shaped.{Shaped, alone, contents_at, shape_at, width_at, HasStream, IsHere, IsStream, IsArray}
use Rattle.sd_mem.specs.mem.Shaped as shaped
use Rattle.sd_windows.specs.Windows as windows
use Rattle.sd_windows.specs.Windows.{moved, place_within, place_if, numbers_in_window}
use Rattle.sd_windows.proofs.WindowNumbers.{windows-are-one-to-one, found_at, tested}
use Rattle.sd_cut.specs.declared.window.Window.{Window}
use Rattle.sd_cut.specs.declared.elements.CutElement.{CutElement}
use Rattle.sd_cut.specs.declared.streams.CutStream.{CutStream}
use Rattle.sd_cut.specs.Windowed.{window_of, window_at, HaveDimensions}
use Rattle.sd_cut.specs.Elements.{AreOfWindow}
use Rattle.sd_cut.specs.Cutting.{all_begun, begun_contents, begun_with, is_wanted, opening_of, stream_cut, IsCounted, IsCutOf}
use Rattle.sd_cut.specs.Using.{stream_at, pushed_to}
use Rattle.sd_cut.specs.Fits.{AreValuesOfWidth}
use Rattle.sd_cut.specs.Overlaid.{Overlaid}
use Rattle.sd_cut.proofs.Fresh.{left-at}
use Rattle.sd_cut.proofs.Merging.{element-at}
use Rattle.sd_cut.proofs.Merged.{stream-there}
use Rattle.sd_cut.proofs.Numbering.{windows-number, cut-found}
use Rattle.sd_cut.proofs.Within.{of_window_counted}
use Rattle.sd_part.specs.Boxes.{NumberBox}
use Rattle.sd_part.specs.Hulls.{is_of_elements, has_elements, hull_of, window_over, AreEven}
use Rattle.sd_part.specs.Marks.{streams_of}
use Rattle.sd_part.specs.Cut.{IsMadeFor, IsCutFor, IsJustCut, AreOfStreams, HasShapeOf, AreArraysOf}
use Rattle.sd_part.proofs.MarkedBoxes.{same-number, windows-even}
use Rattle.sd_part.proofs.MarkedOverlay.{cut-fresh}
use Rattle.sd_part.proofs.Frames.{get-map, index-map}

-- ---- members of lists

decide : (k n : ℕ) → (k < n) ⊎ (n ≤ k)
decide k zero = inr (omega arith)
decide zero (suc n) = inl (omega arith)
decide (suc k) (suc n) = elim (decide k n) [ inl less ↦ inl (omega (arith, less)) | inr more ↦ inr (omega (arith, more)) ]

behind : {A : Type 0} (xs : List A) (k : ℕ) (d : A) → length xs ≤ k → slice_index_or xs k d ≡ d
behind [] k d h = refl
behind (y ∷ xs) zero d h = absurd (omega (arith, h))
behind (y ∷ xs) (suc k) d h = behind xs k d (omega (arith, h))

member : {A : Type 0} (xs : List A) (k : ℕ) (d : A) → k < length xs → slice_get xs k ≡ Some (slice_index_or xs k d)
member [] k d h = absurd (omega (arith, h))
member (x ∷ xs) zero d h = refl
member (x ∷ xs) (suc k) d h = member xs k d (omega (arith, h))

none-is : {A : Type 0} (x : A) → None ≡ Some x → ⊥
none-is x e = cc

same-some : {A : Type 0} (x y : A) → Some x ≡ Some y → x ≡ y
same-some x y e = cc

-- ---- how many containers are left

one-longer : (xs : Memory) (x : Contents) → length (xs ++ x ∷ []) ≡ suc (length xs)
one-longer [] x = refl
one-longer (y ∷ xs) x = ap suc (one-longer xs x)

begun-one : (memory : Shaped) (c : ℕ) (w : Option windows.Window) (cuts : List CutElement) (s : Option CutStream) (left : Shaped) → length (begun_with memory c w cuts s left).contents ≡ suc (length left.contents)
begun-one memory c None cuts None left = one-longer left.contents _
begun-one memory c None cuts (Some s) left = one-longer left.contents _
begun-one memory c (Some w) cuts s left = one-longer left.contents _

begun-count : (memory : Shaped) (d : ℕ) (list : List (Option Window)) (arrays : List (List CutElement)) (streams : List (Option CutStream)) (left : Shaped) →
    length (all_begun memory d list arrays streams left).contents ≡ length left.contents + length list
begun-count memory d [] arrays streams left = omega arith
begun-count memory d (w ∷ list) arrays streams left =
    let rest = begun-count memory (suc d) list arrays streams (begun_with memory d (option_map window_of w) (slice_index_or arrays d []) (slice_index_or streams d None) left) in
    let one = begun-one memory d (option_map window_of w) (slice_index_or arrays d []) (slice_index_or streams d None) left in
    omega (arith, rest, one)

-- ---- what is left of a container

left-count : (boxes : List NumberBox) (memory : Shaped) (cut : Overlaid) → IsJustCut boxes memory cut → length cut.left.contents ≡ length cut.windows
left-count boxes memory cut just =
    let count : length cut.left.contents ≡ 0 + length cut.windows =
    ap (λ (m : Shaped). length m.contents) just.left ∙ begun-count memory 0 cut.windows cut.arrays cut.streams (record { shapes = []; contents = [] }) in
    omega (arith, count)

abbrev begun : Shaped → Overlaid → ℕ → Contents
begun memory cut c = begun_contents memory c (window_at cut.windows c) (slice_index_or cut.arrays c []) (stream_at cut c)

left-is : (boxes : List NumberBox) (memory : Shaped) (cut : Overlaid) → IsJustCut boxes memory cut → (c : ℕ) → c < length cut.windows → contents_at cut.left c ≡ begun memory cut c
left-is boxes memory cut just c less = left-at memory cut.windows cut c refl just.left less

left-none : (boxes : List NumberBox) (memory : Shaped) (cut : Overlaid) → IsJustCut boxes memory cut → (c : ℕ) → length cut.windows ≤ c → contents_at cut.left c ≡ stream W64 []
left-none boxes memory cut just c more = let count = left-count boxes memory cut just in behind cut.left.contents c (stream W64 []) (omega (arith, more, count))

begun-values : (memory : Shaped) (c : ℕ) (w : Option windows.Window) (cuts : List CutElement) (s : Option CutStream) → values_of (begun_contents memory c w cuts s) ≡ []
begun-values memory c None cuts None = refl
begun-values memory c None cuts (Some s) = refl
begun-values memory c (Some w) cuts s = refl

begun-width : (memory : Shaped) (c : ℕ) (w : Option windows.Window) (cuts : List CutElement) (s : Option CutStream) → width_of (begun_contents memory c w cuts s) ≡ width_at memory c
begun-width memory c None cuts None = refl
begun-width memory c None cuts (Some s) = refl
begun-width memory c (Some w) cuts s = refl

wrapped-fits : (w : Width) (xs : List ℤ) (e : ℕ) (value : ℤ) → slice_get (map (wrapped_to w) xs) e ≡ Some value → IsElement w value
wrapped-fits w [] e value h = cc
wrapped-fits w (x ∷ xs) zero value h = subst (IsElement w) (same-some (wrapped_to w x) value h) (IsElement-wrapped_to w x)
wrapped-fits w (x ∷ xs) (suc e) value h = wrapped-fits w xs e value h

begun-fits : (memory : Shaped) (c : ℕ) (w : Option windows.Window) (cuts : List CutElement) (s : Option CutStream) (e : ℕ) (value : ℤ) → slice_get (elements_of (begun_contents memory c w cuts s)) e ≡ Some value → IsElement (width_at memory c) value
begun-fits memory c None cuts None e value h = absurd (none-is value h)
begun-fits memory c None cuts (Some s) e value h = absurd (none-is value h)
begun-fits memory c (Some w) cuts s e value h = wrapped-fits (width_at memory c) (map opening_of cuts) e value h

-- ---- all that is left is of its width

left-width : (boxes : List NumberBox) (memory : Shaped) (cut : Overlaid) → IsJustCut boxes memory cut → (c : ℕ) → c < length cut.windows → width_at cut.left c ≡ width_at memory c
left-width boxes memory cut just c less = ap width_of (left-is boxes memory cut just c less) ∙ begun-width memory c (window_at cut.windows c) (slice_index_or cut.arrays c []) (stream_at cut c)

left-elements : (boxes : List NumberBox) (memory : Shaped) (cut : Overlaid) → IsJustCut boxes memory cut → AreElementsOfWidth (alone cut.left)
left-elements boxes memory cut just c e value h = on (decide c (length cut.windows))
  where
    found : slice_get (elements_of (contents_at cut.left c)) e ≡ Some value
    found = sym (element-at cut.left c e) ∙ h

    on : (c < length cut.windows) ⊎ (length cut.windows ≤ c) → IsElement (width_at cut.left c) value
    on (inl less) =
        subst (λ w. IsElement w value) (sym (left-width boxes memory cut just c less))
        (begun-fits memory c (window_at cut.windows c) (slice_index_or cut.arrays c []) (stream_at cut c) e value (ap (λ k. slice_get (elements_of k) e) (sym (left-is boxes memory cut just c less)) ∙ found))
    on (inr more) = absurd (none-is value (ap (λ k. slice_get (elements_of k) e) (sym (left-none boxes memory cut just c more)) ∙ found))

left-empty : (boxes : List NumberBox) (memory : Shaped) (cut : Overlaid) → IsJustCut boxes memory cut → (c : ℕ) → pushed_to cut c ≡ []
left-empty boxes memory cut just c = on (decide c (length cut.windows))
  where
    on : (c < length cut.windows) ⊎ (length cut.windows ≤ c) → values_of (contents_at cut.left c) ≡ []
    on (inl less) = ap values_of (left-is boxes memory cut just c less) ∙ begun-values memory c (window_at cut.windows c) (slice_index_or cut.arrays c []) (stream_at cut c)
    on (inr more) = ap values_of (left-none boxes memory cut just c more)

left-values : (boxes : List NumberBox) (memory : Shaped) (cut : Overlaid) → IsJustCut boxes memory cut → AreValuesOfWidth (alone cut.left)
left-values boxes memory cut just c values h =
    let none : [] ≡ values = sym (left-empty boxes memory cut just c) ∙ stream-there cut.left c values h in
    subst (λ l. map (wrapped_to (container_width 0 c (alone cut.left))) l ≡ l) none refl

-- ---- streams that were cut

-- a stream is found with its values
stream-is : (memory : Shaped) (c : ℕ) → HasStream memory c → stream_found 0 c (alone memory) ≡ Some (waiting 0 c (alone memory))
stream-is memory c has = ap (option_and_then values_if) (member memory.contents c (stream W64 []) has.0) ∙ on (contents_at memory c) has.1
  where
    on : (k : Contents) → IsStream k → values_if k ≡ Some (values_of k)
    on (array w xs) h = elim h [ ]
    on (stream w xs) h = refl

-- what is known of one
record IsCutSo (memory : Shaped) (cut : Overlaid) (c : ℕ) (s : CutStream) : Type 0 where
  within : c < length cut.windows
  none : slice_index_or cut.windows c None ≡ None
  has : HasStream memory c
  is : s ≡ stream_cut (waiting 0 c (alone memory))

wanted-none : (o : Option Window) (numbers : List ℕ) (c : ℕ) → is_wanted o numbers c ≡ true → o ≡ None
wanted-none None numbers c h = refl
wanted-none (Some w) numbers c h = cc

cut-so : (boxes : List NumberBox) (memory : Shaped) (cut : Overlaid) → IsJustCut boxes memory cut → (c : ℕ) (s : CutStream) → stream_at cut c ≡ Some s → IsCutSo memory cut c s
cut-so boxes memory cut just c s is = on (decide c (length cut.windows))
  where
    on : (c < length cut.windows) ⊎ (length cut.windows ≤ c) → IsCutSo memory cut c s
    on (inl less) =
        let so = subst (IsCutOf memory c (is_wanted (slice_index_or cut.windows c None) (streams_of boxes) c)) is (just.streams c less) in
        record { within = less; none = wanted-none (slice_index_or cut.windows c None) (streams_of boxes) c so.0; has = so.1; is = so.2 }
    on (inr more) = let count = just.count in absurd (none-is s (sym (behind cut.streams c None (omega (arith, more, count))) ∙ is))

-- the container of a box of a stream is one of the streams
one-of : (some : List NumberBox) (box : NumberBox) → Contains some box → is_of_elements box.mode ≡ false → has_number (map (λ (b : NumberBox). b.container) (filter (λ b. not (is_of_elements b.mode)) some)) box.container ≡ true
one-of [] box among of_stream = absurd (Contains-nil box among)
one-of (first ∷ some) box among of_stream = on (λ more. one-of some box more of_stream) (is_of_elements first.mode) refl
  where
    either : (b : Bool) → (b ≡ true) ⊎ (b ≡ false)
    either true = inl refl
    either false = inr refl

    on : (Contains some box → has_number (map (λ (b : NumberBox). b.container) (filter (λ b. not (is_of_elements b.mode)) some)) box.container ≡ true) →
        (b : Bool) → is_of_elements first.mode ≡ b → has_number (map (λ (b : NumberBox). b.container) (filter (λ b. not (is_of_elements b.mode)) (first ∷ some))) box.container ≡ true
    on later true e = elim (Contains-cases first some box among) [
      | inl is ↦ (let clash : true ≡ false = sym e ∙ ap (λ (b : NumberBox). is_of_elements b.mode) is ∙ of_stream in cc)
      | inr more ↦ rw e (later more)
    ]
    on later false e = elim (Contains-cases first some box among) [
      | inl is ↦ rw e (rw (ap (λ (b : NumberBox). nat_eq box.container b.container) is ∙ same-number box.container) refl)
      | inr more ↦ rw e (elim (either (nat_eq box.container first.container)) [ inl own ↦ rw own refl | inr other ↦ rw other (later more) ])
    ]

pub just-holds : (boxes : List NumberBox) (memory : Shaped) (cut : Overlaid) → IsJustCut boxes memory cut → AreEven boxes → AreOfStreams boxes memory cut → AreValuesOfWidth (alone memory) → IsCutFor boxes cut
just-holds boxes memory cut just even streams values = record {
  even = even;
  windows = just.windows;
  fresh = cut-fresh memory cut.windows cut (windows-even boxes cut.windows just.windows) just.untouched just.arrays;
  streams = λ box among of_stream. of-box box among of_stream;
  unused = λ c s is.
      let so = cut-so boxes memory cut just c s is in
      record {
        usage = ap (λ (t : CutStream). t.usage) so.is;
        taken = ap (λ (t : CutStream). t.taken) so.is;
        pushed = left-empty boxes memory cut just c;
        values = subst (λ (t : CutStream). map (wrapped_to (width_at cut.left c)) t.opening ≡ t.opening) (sym so.is)
            (subst (λ w. map (wrapped_to w) (waiting 0 c (alone memory)) ≡ waiting 0 c (alone memory)) (sym (left-width boxes memory cut just c so.within)) (values c (waiting 0 c (alone memory)) (stream-is memory c so.has)));
      };
  elements = left-elements boxes memory cut just;
  values = left-values boxes memory cut just;
}
  where
    of-box : (box : NumberBox) → Contains boxes box → is_of_elements box.mode ≡ false → (s : CutStream) × (stream_at cut box.container ≡ Some s)
    of-box box among of_stream = on (stream_at cut box.container) refl (just.streams box.container here.0)
      where
        here : (box.container < length cut.windows) × HasStream memory box.container × (has_elements boxes box.container ≡ false)
        here = streams box among of_stream

        none : slice_index_or cut.windows box.container None ≡ None
        none = just.windows box.container ∙ ap (λ b. if b then option_map window_over (hull_of box.container boxes) else None) here.2

        wanted : is_wanted (slice_index_or cut.windows box.container None) (streams_of boxes) box.container ≡ true
        wanted = ap (λ o. is_wanted o (streams_of boxes) box.container) none ∙ one-of boxes box among of_stream

        on : (o : Option CutStream) → stream_at cut box.container ≡ o → IsCutOf memory box.container (is_wanted (slice_index_or cut.windows box.container None) (streams_of boxes) box.container) o →
            (s : CutStream) × (stream_at cut box.container ≡ Some s)
        on None e h = absurd (h wanted here.1)
        on (Some s) e h = (s, e)

-- ---- memories of one shape

abbrev first-of : {A : Type 0} → A → List A → A
first-of d [] = d
first-of d (x ∷ xs) = x

-- what they have of each container
shape-of : (over memory : Shaped) → HasShapeOf over memory → (c : ℕ) → contents_shape (contents_at over c) ≡ contents_shape (contents_at memory c)
shape-of over memory same c =
    sym (index-map contents_shape (stream W64 []) over.contents c)
    ∙ ap (λ l. slice_index_or l c (contents_shape (stream W64 []))) (ap (first-of []) same.1)
    ∙ index-map contents_shape (stream W64 []) memory.contents c

width-of-shape : (over memory : Shaped) → HasShapeOf over memory → (c : ℕ) → width_at over c ≡ width_at memory c
width-of-shape over memory same c = ap (λ (shape : Width × Option ℕ). shape.0) (shape-of over memory same c)

length-of : (k : Contents) (n : ℕ) → array_length k ≡ Some n → IsArray k × (length (elements_of k) ≡ n)
length-of (array w xs) n h = (tt, same-some (length xs) n h)
length-of (stream w xs) n h = absurd (none-is n h)

here-length : (shape : List ℕ) (k : Contents) → shaped.IsWhole shape k → array_length k ≡ Some (product shape)
here-length shape (array w xs) h = ap Some h
here-length shape (stream w xs) h = elim h [ ]

here-by : (shape : List ℕ) (k : Contents) → IsArray k → length (elements_of k) ≡ product shape → shaped.IsWhole shape k
here-by shape (array w xs) a h = h
here-by shape (stream w xs) a h = elim a [ ]

is-array : (shape : List ℕ) (k : Contents) → shaped.IsWhole shape k → IsArray k
is-array shape (array w xs) h = tt
is-array shape (stream w xs) h = elim h [ ]

here-of : (over memory : Shaped) → HasShapeOf over memory → (c : ℕ) → IsHere memory c → IsHere over c
here-of over memory same c here =
    let shapes : shape_at over c ≡ shape_at memory c = ap (λ l. slice_index_or l c []) same.0 in
    let long = length-of (contents_at over c) (product (shape_at memory c)) (ap (λ (shape : Width × Option ℕ). shape.1) (shape-of over memory same c) ∙ here-length (shape_at memory c) (contents_at memory c) here) in
    here-by (shape_at over c) (contents_at over c) long.0 (long.1 ∙ ap product (sym shapes))

-- a stream is one in both
stream-by : (o p : Option Contents) → option_map contents_shape o ≡ option_map contents_shape p → (values : List ℤ) → option_and_then values_if p ≡ Some values → (others : List ℤ) × (option_and_then values_if o ≡ Some others)
stream-by o None s values h = absurd (none-is values h)
stream-by None (Some k) s values h = absurd (none-is (contents_shape k) s)
stream-by (Some (stream v ys)) (Some k) s values h = (ys, refl)
stream-by (Some (array v ys)) (Some (array w xs)) s values h = absurd (none-is values h)
stream-by (Some (array v ys)) (Some (stream w xs)) s values h = let clash : None ≡ Some (length ys) = sym (ap length-in s) in absurd (none-is (length ys) clash)
  where
    length-in : Option (Width × Option ℕ) → Option ℕ
    length-in None = None
    length-in (Some shape) = shape.1

stream-of : (over memory : Shaped) → HasShapeOf over memory → (c : ℕ) (values : List ℤ) → stream_found 0 c (alone memory) ≡ Some values → (others : List ℤ) × (stream_found 0 c (alone over) ≡ Some others)
stream-of over memory same c values is =
    stream-by (slice_get over.contents c) (slice_get memory.contents c)
    (sym (get-map contents_shape over.contents c) ∙ ap (λ l. slice_get l c) (ap (first-of []) same.1) ∙ get-map contents_shape memory.contents c) values is

-- ---- windows of it

-- a container with a window is one of the list
window-below : (list : List (Option Window)) (c : ℕ) (w : windows.Window) → window_at list c ≡ Some w → c < length list
window-below list c w at = on (decide c (length list))
  where
    on : (c < length list) ⊎ (length list ≤ c) → c < length list
    on (inl less) = less
    on (inr more) = absurd (none-is w (ap (option_map window_of) (sym (behind list c None more)) ∙ at))

-- a number in a window is below its count
number-below : (extents : List ℕ) (w : windows.Window) (e k : ℕ) → numbers_in_window extents (Some w) e ≡ Some k → k < product w.extents
number-below extents w e k named =
    let at = found_at (slice_get (whole extents) e) (place_if extents w e) k named in
    let in_it = tested (inside extents at.0) (if row_number extents at.0 == e then place_within w at.0 else None) k at.1 in
    let own = tested (row_number extents at.0 == e) (place_within w at.0) k in_it.1 in
    let within = tested (inside w.extents (moved w.shift at.0)) (Some (row_number w.extents (moved w.shift at.0))) k own.1 in
    subst (λ n. n < product w.extents) (same-some (row_number w.extents (moved w.shift at.0)) k within.1) (row_number_below w.extents (moved w.shift at.0) within.0)

get-below : {A : Type 0} (xs : List A) (n : ℕ) → n < length xs → (x : A) × (slice_get xs n ≡ Some x)
get-below [] n less = absurd (omega (arith, less))
get-below (x ∷ xs) zero less = (x, refl)
get-below (x ∷ xs) (suc n) less = get-below xs n (omega (arith, less))

window-left : (boxes : List NumberBox) (memory : Shaped) (cut : Overlaid) → IsJustCut boxes memory cut → (c : ℕ) (w : windows.Window) → window_at cut.windows c ≡ Some w →
    contents_at cut.left c ≡ array (width_at memory c) (map (wrapped_to (width_at memory c)) (map opening_of (slice_index_or cut.arrays c [])))
window-left boxes memory cut just c w at =
    left-is boxes memory cut just c (window-below cut.windows c w at) ∙ ap (λ o. begun_contents memory c o (slice_index_or cut.arrays c []) (stream_at cut c)) at

no-window : (boxes : List NumberBox) (memory : Shaped) (cut : Overlaid) → IsJustCut boxes memory cut → (c : ℕ) → window_at cut.windows c ≡ None → slice_index_or cut.arrays c [] ≡ []
no-window boxes memory cut just c at = subst (λ o. AreOfWindow memory c o (slice_index_or cut.arrays c [])) at (just.arrays c)

room : (boxes : List NumberBox) (memory : Shaped) (cut : Overlaid) → IsJustCut boxes memory cut → (c : ℕ) → length (slice_index_or cut.arrays c []) ≤ length (elements_of (contents_at cut.left c))
room boxes memory cut just c = on (window_at cut.windows c) refl
  where
    on : (o : Option windows.Window) → window_at cut.windows c ≡ o → length (slice_index_or cut.arrays c []) ≤ length (elements_of (contents_at cut.left c))
    on None at = let none = ap length (no-window boxes memory cut just c at) in omega (arith, none)
    on (Some w) at =
        let w = width_at memory c in
        let cuts = slice_index_or cut.arrays c [] in
        let count = ap (λ k. length (elements_of k)) (window-left boxes memory cut just c _ at) ∙ length-map (map opening_of cuts) (wrapped_to w) ∙ length-map cuts opening_of in
        omega (arith, count)

pub just-made : (boxes : List NumberBox) (containers : Containers) (memory over : Shaped) (cut : Overlaid) → IsJustCut boxes memory cut → HaveDimensions containers cut.windows → AreArraysOf containers memory cut → HasShapeOf over memory →
    AreElementsOfWidth (alone over) → AreValuesOfWidth (alone over) → IsMadeFor cut containers over
just-made boxes containers memory over cut just dimensions arrays same elements values = record {
  fits = record {
    numbered = windows-number containers cut.windows memory cut.arrays (windows-even boxes cut.windows just.windows) (λ c w at. (arrays c w at).0) just.arrays;
    one = windows-are-one-to-one containers (window_at cut.windows) dimensions;
    elements = cut-found cut.windows memory over cut.left cut.arrays just.arrays
        (λ c w at. (ap (λ l. slice_index_or l c []) (sym same.0), here-of over memory same c (arrays c w at).1, wide c (window-below cut.windows c w at)))
        (room boxes memory cut just);
    streams = λ c s is.
        let so = cut-so boxes memory cut just c s is in
        (stream-of over memory same c (waiting 0 c (alone memory)) (stream-is memory c so.has), stream-left c s is so.within so.none, wide c so.within);
  };
  whole = record {
    arrays = λ c w at. (
      is-array (shape_at over c) (contents_at over c) (here-of over memory same c (arrays c w at).1),
      subst IsArray (sym (window-left boxes memory cut just c w at)) tt,
      wide c (window-below cut.windows c w at),
    );
    all = λ c e k w at named.
        let counted = subst (λ o. IsCounted o (slice_index_or cut.arrays c [])) at (of_window_counted memory c (window_at cut.windows c) (slice_index_or cut.arrays c []) (windows-even boxes cut.windows just.windows c) (just.arrays c)) in
        let below = number-below (extents_of (container_at containers c)) w e k (ap (λ o. numbers_in_window (extents_of (container_at containers c)) o e) (sym at) ∙ named) in
        get-below (slice_index_or cut.arrays c []) k (omega (arith, counted, below));
    none = λ c at. no-window boxes memory cut just c at;
    stays = λ c e k at named. same-some e k (ap (λ o. numbers_in_window (extents_of (container_at containers c)) o e) (sym at) ∙ named);
    streams = λ c s is. ap (option_map window_of) (cut-so boxes memory cut just c s is).none;
  };
  elements = elements;
  values = values;
}
  where
    wide : (c : ℕ) → c < length cut.windows → width_at cut.left c ≡ width_at over c
    wide c less = left-width boxes memory cut just c less ∙ sym (width-of-shape over memory same c)

    stream-left : (c : ℕ) (s : CutStream) → stream_at cut c ≡ Some s → c < length cut.windows → slice_index_or cut.windows c None ≡ None → (values : List ℤ) × (stream_found 0 c (alone cut.left) ≡ Some values)
    stream-left c s is less none =
        let count = left-count boxes memory cut just in
        let begun_so : contents_at cut.left c ≡ stream (width_at memory c) [] =
        left-is boxes memory cut just c less ∙ (λ i. begun_contents memory c (option_map window_of (none i)) (slice_index_or cut.arrays c []) (is i)) in
        ([], ap (option_and_then values_if) (member cut.left.contents c (stream W64 []) (omega (arith, less, count))) ∙ ap values_if begun_so)
