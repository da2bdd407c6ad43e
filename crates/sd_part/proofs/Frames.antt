-- Cuts that have the same places and openings, and of which memories of one shape are left.
use Rattle.std.proofs.Common.{◌≡◌, ℕ, zero, suc, ◌<◌, ℤ, List, [], ◌∷◌, map, length, Option, Some, None, option_map, slice_get, slice_index_or, refl, sym, ◌∙◌, ap, subst}
use Rattle.std.specs.Option.{option_and_then}
use Rattle.sd_num.specs.declared.width.Width.{Width}
use Rattle.sd_num.specs.declared.width.Width.TheVariants.{W64}
use Rattle.sd_work.specs.Memory.{Contents, array, stream, elements_of}
use Rattle.sd_work.specs.Change.{Change, changed_at, with_values}
use Rattle.sd_pieces.specs.course.Reading.{values_if, stream_found}
use Rattle.sd_pieces.specs.course.Shape.{array_length, contents_shape, stack_shape}
use Rattle.sd_pieces.specs.cut.Naming.{Naming}
use Rattle.sd_pieces.proofs.course_lemmas.Shapes.{shape-after}
use Rattle.sd_mem.specs.mem.Shaped.{Shaped, alone, changed, contents_at, width_at, with_values_at, IsArray}
use Rattle.sd_cut.specs.declared.elements.CutElement.{CutElement}
use Rattle.sd_cut.specs.declared.streams.CutStream.{CutStream}
use Rattle.sd_cut.specs.Elements.{told, cut_at}
use Rattle.sd_windows.specs.Windows as windows
use Rattle.sd_cut.specs.Windowed.{window_at}
use Rattle.sd_cut.specs.Using.{stream_at}
use Rattle.sd_cut.specs.Fits.{with_left, Fits, IsWhole}
use Rattle.sd_cut.specs.Overlaid.{Overlaid}
use Rattle.sd_cut.proofs.Performing.{alone-changed}

-- the values with which a stream was cut
abbrev pub opening_of : CutStream → List ℤ
opening_of s = s.opening

-- two cuts have the same places and openings, and memories of one shape are left of them
pub record HaveOneFrame (cut other : Overlaid) : Type 0 where
  pub windows : cut.windows ≡ other.windows
  pub arrays : map (map told) cut.arrays ≡ map (map told) other.arrays
  pub streams : map (option_map opening_of) cut.streams ≡ map (option_map opening_of) other.streams
  pub shape : map contents_shape cut.left.contents ≡ map contents_shape other.left.contents

pub frame-self : (cut : Overlaid) → HaveOneFrame cut cut
frame-self cut = record { windows = refl; arrays = refl; streams = refl; shape = refl }

pub frame-both : (a b c : Overlaid) → HaveOneFrame a b → HaveOneFrame b c → HaveOneFrame a c
frame-both a b c h k = record { windows = h.windows ∙ k.windows; arrays = h.arrays ∙ k.arrays; streams = h.streams ∙ k.streams; shape = h.shape ∙ k.shape }

pub frame-back : (a b : Overlaid) → HaveOneFrame a b → HaveOneFrame b a
frame-back a b h = record { windows = sym h.windows; arrays = sym h.arrays; streams = sym h.streams; shape = sym h.shape }

-- ---- members of mapped lists

pub get-map : {A B : Type 0} (f : A → B) (xs : List A) (k : ℕ) → slice_get (map f xs) k ≡ option_map f (slice_get xs k)
get-map f [] k = refl
get-map f (x ∷ xs) zero = refl
get-map f (x ∷ xs) (suc k) = get-map f xs k

pub index-map : {A B : Type 0} (f : A → B) (d : A) (xs : List A) (k : ℕ) → slice_index_or (map f xs) k (f d) ≡ f (slice_index_or xs k d)
index-map f d [] k = refl
index-map f d (x ∷ xs) zero = refl
index-map f d (x ∷ xs) (suc k) = index-map f d xs k

pub map-changed : {A B : Type 0} (g : A → B) (i : ℕ) (f : A → A) → ((x : A) → g (f x) ≡ g x) → (xs : List A) → map g (changed_at i f xs) ≡ map g xs
map-changed g i f h [] = refl
map-changed g zero f h (x ∷ xs) = ap (λ y. y ∷ map g xs) (h x)
map-changed g (suc i) f h (x ∷ xs) = ap (λ ys. g x ∷ ys) (map-changed g i f h xs)

-- ---- the same of each element

told-list : (cut other : Overlaid) → HaveOneFrame cut other → (c : ℕ) → map told (slice_index_or cut.arrays c []) ≡ map told (slice_index_or other.arrays c [])
told-list cut other frame c = sym (index-map (map told) [] cut.arrays c) ∙ ap (λ l. slice_index_or l c []) frame.arrays ∙ index-map (map told) [] other.arrays c

-- an element that was cut, in the other cut
abbrev IsThere : Overlaid → (c k : ℕ) → CutElement → Type 0
IsThere other c k one = (old : CutElement) × (cut_at other.arrays c k ≡ Some old) × (old.place ≡ one.place) × (old.opening ≡ one.opening)

pub element-there : (cut other : Overlaid) → HaveOneFrame cut other → (c k : ℕ) (one : CutElement) → cut_at cut.arrays c k ≡ Some one → IsThere other c k one
element-there cut other frame c k one is =
    on (cut_at other.arrays c k) refl
    (sym (get-map told (slice_index_or other.arrays c []) k) ∙ ap (λ l. slice_get l k) (sym (told-list cut other frame c)) ∙ get-map told (slice_index_or cut.arrays c []) k ∙ ap (option_map told) is)
  where
    place-of : Option (Option ℕ × ℤ) → ℕ
    place-of None = 0
    place-of (Some t) = place-in t.0
      where
        place-in : Option ℕ → ℕ
        place-in None = 0
        place-in (Some p) = p

    opening-in : Option (Option ℕ × ℤ) → ℤ
    opening-in None = one.opening
    opening-in (Some t) = t.1

    on : (o : Option CutElement) → cut_at other.arrays c k ≡ o → option_map told o ≡ Some (told one) → IsThere other c k one
    on None e h = cc
    on (Some old) e h = (old, e, ap place-of h, ap opening-in h)

pub stream-there : (cut other : Overlaid) → HaveOneFrame cut other → (c : ℕ) (s : CutStream) → stream_at cut c ≡ Some s → (old : CutStream) × (stream_at other c ≡ Some old) × (old.opening ≡ s.opening)
stream-there cut other frame c s is =
    on (stream_at other c) refl
    (sym (index-map (option_map opening_of) None other.streams c) ∙ ap (λ l. slice_index_or l c None) (sym frame.streams) ∙ index-map (option_map opening_of) None cut.streams c ∙ ap (option_map opening_of) is)
  where
    or_own : Option (List ℤ) → List ℤ
    or_own None = s.opening
    or_own (Some values) = values

    on : (o : Option CutStream) → stream_at other c ≡ o → option_map opening_of o ≡ Some s.opening → (old : CutStream) × (stream_at other c ≡ Some old) × (old.opening ≡ s.opening)
    on None e h = cc
    on (Some old) e h = (old, e, ap or_own h)

-- ---- the same shape

shape-at : (cut other : Overlaid) → HaveOneFrame cut other → (c : ℕ) → contents_shape (contents_at cut.left c) ≡ contents_shape (contents_at other.left c)
shape-at cut other frame c =
    sym (index-map contents_shape (stream W64 []) cut.left.contents c)
    ∙ ap (λ l. slice_index_or l c (contents_shape (stream W64 []))) frame.shape
    ∙ index-map contents_shape (stream W64 []) other.left.contents c

pub width-there : (cut other : Overlaid) → HaveOneFrame cut other → (c : ℕ) → width_at cut.left c ≡ width_at other.left c
width-there cut other frame c = ap (λ (shape : Width × Option ℕ). shape.0) (shape-at cut other frame c)

-- how many elements contents of a shape have
abbrev count_in : Option ℕ → ℕ
count_in None = 0
count_in (Some count) = count

count-of : (k : Contents) → length (elements_of k) ≡ count_in (array_length k)
count-of (array w xs) = refl
count-of (stream w xs) = refl

pub count-there : (cut other : Overlaid) → HaveOneFrame cut other → (c : ℕ) → length (elements_of (contents_at cut.left c)) ≡ length (elements_of (contents_at other.left c))
count-there cut other frame c =
    count-of (contents_at cut.left c) ∙ ap (λ (shape : Width × Option ℕ). count_in shape.1) (shape-at cut other frame c) ∙ sym (count-of (contents_at other.left c))

array-by : (k j : Contents) → contents_shape j ≡ contents_shape k → IsArray k → IsArray j
array-by (array w xs) (array v ys) s h = tt
array-by (array w xs) (stream v ys) s h = let clash : None ≡ Some (length xs) = ap (λ (shape : Width × Option ℕ). shape.1) s in cc
array-by (stream w xs) j s h = elim h [ ]

stream-by : (o p : Option Contents) → option_map contents_shape o ≡ option_map contents_shape p → (values : List ℤ) → option_and_then values_if p ≡ Some values → (others : List ℤ) × (option_and_then values_if o ≡ Some others)
stream-by o None s values h = cc
stream-by None (Some k) s values h = cc
stream-by (Some (stream v ys)) (Some k) s values h = (ys, refl)
stream-by (Some (array v ys)) (Some (array w xs)) s values h = cc
stream-by (Some (array v ys)) (Some (stream w xs)) s values h = let clash : Some (length ys) ≡ None = ap length-in s in cc
  where
    length-in : Option (Width × Option ℕ) → Option ℕ
    length-in None = None
    length-in (Some shape) = shape.1

pub values-there : (cut other : Overlaid) → HaveOneFrame cut other → (c : ℕ) (values : List ℤ) → stream_found 0 c (alone other.left) ≡ Some values → (others : List ℤ) × (stream_found 0 c (alone cut.left) ≡ Some others)
values-there cut other frame c values is =
    stream-by (slice_get cut.left.contents c) (slice_get other.left.contents c)
    (sym (get-map contents_shape cut.left.contents c) ∙ ap (λ l. slice_get l c) frame.shape ∙ get-map contents_shape other.left.contents c) values is

-- ---- what fits one fits the other

pub fits-by : (naming : Naming) (cut other : Overlaid) (memory : Shaped) → HaveOneFrame cut other → Fits naming other memory → Fits naming cut memory
fits-by naming cut other memory frame fits = record {
  numbered = λ c k one is. let old = element-there cut other frame c k one is in ap (naming c) (sym old.2) ∙ fits.numbered c k old.0 old.1;
  one = fits.one;
  elements = λ c k one is.
      let old = element-there cut other frame c k one is in
      let f = fits.elements c k old.0 old.1 in (
        subst (λ p. p < length (elements_of (contents_at memory c))) old.2 f.0,
        subst (λ n. k < n) (sym (count-there cut other frame c)) f.1,
        width-there cut other frame c ∙ f.2,
      );
  streams = λ c s is.
      let old = stream-there cut other frame c s is in
      let f = fits.streams c old.0 old.1 in
      (f.0, values-there cut other frame c f.1.0 f.1.1, width-there cut other frame c ∙ f.2);
}

none-told : (cuts : List CutElement) → map told cuts ≡ [] → cuts ≡ []
none-told [] h = refl
none-told (one ∷ cuts) h = cc

pub whole-by : (naming : Naming) (cut other : Overlaid) (memory : Shaped) → HaveOneFrame cut other → IsWhole naming other memory → IsWhole naming cut memory
whole-by naming cut other memory frame whole = record {
  arrays = λ c window is.
      let f = whole.arrays c window (at c is) in
      (f.0, array-by (contents_at other.left c) (contents_at cut.left c) (shape-at cut other frame c) f.1, width-there cut other frame c ∙ f.2);
  all = λ c e k window is named.
      let old = whole.all c e k window (at c is) named in
      let new = element-there other cut (frame-back cut other frame) c k old.0 old.1 in
      (new.0, new.1);
  none = λ c is. none-told (slice_index_or cut.arrays c []) (told-list cut other frame c ∙ ap (map told) (whole.none c (at c is)));
  stays = λ c e k is named. whole.stays c e k (at c is) named;
  streams = λ c s is. let old = stream-there cut other frame c s is in ap (λ w. window_at w c) frame.windows ∙ whole.streams c old.0 old.1;
}
  where
    at : (c : ℕ) {found : Option windows.Window} → window_at cut.windows c ≡ found → window_at other.windows c ≡ found
    at c is = ap (λ w. window_at w c) (sym frame.windows) ∙ is

-- ---- what leaves the shape

abbrev first-of : {A : Type 0} → A → List A → A
first-of d [] = d
first-of d (x ∷ xs) = x

pub shape-written : (change : Change) (left : Shaped) → map contents_shape (changed change left).contents ≡ map contents_shape left.contents
shape-written change left = ap (first-of []) (ap stack_shape (alone-changed (change ∷ []) left) ∙ shape-after (change ∷ []) (alone left))

values-shape : (f : Width → List ℤ → List ℤ) (k : Contents) → contents_shape (with_values f k) ≡ contents_shape k
values-shape f (array w xs) = refl
values-shape f (stream w xs) = refl

pub shape-filled : (c : ℕ) (values : List ℤ) (left : Shaped) → map contents_shape (with_values_at c values left).contents ≡ map contents_shape left.contents
shape-filled c values left = map-changed contents_shape c _ (values-shape _) left.contents

-- something else of the same shape is left
pub frame-left : (cut : Overlaid) (left other : Shaped) → stack_shape (alone left) ≡ stack_shape (alone other) → HaveOneFrame (with_left left cut) (with_left other cut)
frame-left cut left other same = record { windows = refl; arrays = refl; streams = refl; shape = ap (first-of []) same }
