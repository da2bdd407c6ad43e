-- Memories that agree on what is read still do after the same changes.
use Rattle.std.proofs.Common.{◌≡◌, ℕ, zero, suc, ℤ, pos, List, [], ◌∷◌, ◌++◌, map, drop, Option, Some, None, slice_get, slice_index_or, Result, Ok, Err, Bool, true, false, refl, sym, ◌∙◌, ap}
use Rattle.std.specs.Option.{option_and_then}
use Rattle.sd_num.specs.declared.width.Width.{Width}
use Rattle.sd_num.specs.declared.width.Width.TheVariants.{W64}
use Rattle.sd_work.specs.Memory.{Contents, array, stream, Memory, Memories, Reference, width_of, elements_of, values_of, contents_of, look, seen, waiting}
use Rattle.sd_work.specs.Change.{Change, nothing, write, push, take, written, changed_at, without, with_elements, with_values, appended, with_contents, apply, outer}
use Rattle.sd_work.specs.Move.{Fault}
use Rattle.sd_work.specs.Exit.{Guard, Exit, with_value, all_seen, decided, passed, or_later, first_exit}
use Rattle.sd_pieces.specs.course.Reading.{Reading, reads_element, reads_stream, contents_found, values_if, element_found, stream_found, container_width, HaveOneWidth, AgreeAt, AgreeOn, apply_all, outer_element, outer_stream, outer_readings}
use Rattle.sd_pieces.specs.course.Course.{read_at, reads_up_to, guard_reads, unless_passed, exits_read}
use Rattle.sd_work.proofs.Changes.{width-apply, apply-own}

-- ---- what a change does to one member

-- a function at this number, nothing at others
abbrev pub at : {A : Type 0} → (number other : ℕ) → (A → A) → A → A
at zero zero f x = f x
at zero (suc j) f x = x
at (suc i) zero f x = x
at (suc i) (suc j) f x = at i j f x

abbrev pub if_found : {A : Type 0} → (A → A) → Option A → Option A
if_found f None = None
if_found f (Some x) = Some (f x)

-- a function that is the identity changes nothing that is found
pub unchanged : {A : Type 0} (f : A → A) → ((x : A) → f x ≡ x) → (o : Option A) → o ≡ if_found f o
unchanged f h None = refl
unchanged f h (Some x) = ap Some (sym (h x))

-- two functions that are the same change what is found to the same
pub same_found : {A : Type 0} (f g : A → A) → ((x : A) → f x ≡ g x) → (o : Option A) → if_found f o ≡ if_found g o
same_found f g h None = refl
same_found f g h (Some x) = ap Some (h x)

pub found-changed_at : {A : Type 0} (i j : ℕ) (f : A → A) (xs : List A) → slice_get (changed_at i f xs) j ≡ if_found (at i j f) (slice_get xs j)
found-changed_at i j f [] = refl
found-changed_at zero zero f (x ∷ xs) = refl
found-changed_at zero (suc j) f (x ∷ xs) = unchanged (at zero (suc j) f) (λ y. refl) (slice_get xs j)
found-changed_at (suc i) zero f (x ∷ xs) = refl
found-changed_at (suc i) (suc j) f (x ∷ xs) = found-changed_at i j f xs ∙ same_found (at i j f) (at (suc i) (suc j) f) (λ y. refl) (slice_get xs j)

-- what is found in a member that was changed, where the change acts on what is found
where-at : {A B : Type 0} (i j : ℕ) (f : A → A) (q : A → Option B) (g : B → B) (x : A) → q (f x) ≡ if_found g (q x) → q (at i j f x) ≡ if_found (at i j g) (q x)
where-at zero zero f q g x h = h ∙ same_found g (at zero zero g) (λ y. refl) (q x)
where-at zero (suc j) f q g x h = unchanged (at zero (suc j) g) (λ y. refl) (q x)
where-at (suc i) zero f q g x h = unchanged (at (suc i) zero g) (λ y. refl) (q x)
where-at (suc i) (suc j) f q g x h = where-at i j f q g x h ∙ same_found (at i j g) (at (suc i) (suc j) g) (λ y. refl) (q x)

where-if_found : {A B : Type 0} (f : A → A) (q : A → Option B) (g : B → B) (o : Option A) → ((x : A) → o ≡ Some x → q (f x) ≡ if_found g (q x)) → option_and_then q (if_found f o) ≡ if_found g (option_and_then q o)
where-if_found f q g None h = refl
where-if_found f q g (Some x) h = h x refl

-- what a container holds after another one, or it, was changed
pub container-changed : (l c m d : ℕ) (f : Contents → Contents) (s : Memories) → contents_found l c (with_contents m d f s) ≡ if_found (at m l (at d c f)) (contents_found l c s)
container-changed l c m d f s =
    ap (λ o. option_and_then (λ memory. slice_get memory c) o) (found-changed_at m l (changed_at d f) s)
    ∙ where-if_found (at m l (changed_at d f)) (λ memory. slice_get memory c) (at m l (at d c f)) (slice_get s l)
    (λ memory e. where-at m l (changed_at d f) (λ memory. slice_get memory c) (at d c f) memory (found-changed_at d c f memory))

-- what is found in a container after a change, where the change acts on what is found there
look_changed : {B : Type 0} (l c m d : ℕ) (f : Contents → Contents) (q : Contents → Option B) (g : B → B) (s : Memories) → ((k : Contents) → contents_found l c s ≡ Some k → q (f k) ≡ if_found g (q k)) →
    option_and_then q (contents_found l c (with_contents m d f s)) ≡ if_found (at m l (at d c g)) (option_and_then q (contents_found l c s))
look_changed l c m d f q g s h =
    ap (λ o. option_and_then q o) (container-changed l c m d f s)
    ∙ where-if_found (at m l (at d c f)) q (at m l (at d c g)) (contents_found l c s) (λ k e. where-at m l (at d c f) q (at d c g) k (where-at d c f q g k (h k e)))

-- ---- what is found, or something else

abbrev pub or_default : {A : Type 0} → A → Option A → A
or_default d None = d
or_default d (Some x) = x

index-found : {A : Type 0} (xs : List A) (i : ℕ) (d : A) → slice_index_or xs i d ≡ or_default d (slice_get xs i)
index-found [] i d = refl
index-found (x ∷ xs) zero d = refl
index-found (x ∷ xs) (suc i) d = index-found xs i d

pub contents-found : (l c : ℕ) (s : Memories) → contents_of l c s ≡ or_default (stream W64 []) (contents_found l c s)
contents-found l c s = ap (λ memory. slice_index_or memory c (stream W64 [])) (index-found s l []) ∙ in_found (slice_get s l)
  where
    in_found : (o : Option Memory) → slice_index_or (or_default [] o) c (stream W64 []) ≡ or_default (stream W64 []) (option_and_then (λ memory. slice_get memory c) o)
    in_found None = refl
    in_found (Some memory) = index-found memory c (stream W64 [])

-- ---- the width of a container

width_in : (l c : ℕ) (s : Memories) (k : Contents) → contents_found l c s ≡ Some k → width_of k ≡ container_width l c s
width_in l c s k e = ap (λ o. width_of (or_default (stream W64 []) o)) (sym e) ∙ ap width_of (sym (contents-found l c s))

-- ---- what a change makes of an element and of a stream

found_in : (e p : ℕ) (f : Width → ℤ → ℤ) (w : Width) (k : Contents) → width_of k ≡ w → slice_get (elements_of (with_elements (λ width. changed_at p (f width)) k)) e ≡ if_found (at p e (f w)) (slice_get (elements_of k) e)
found_in e p f w (array width elements) h = found-changed_at p e (f width) elements ∙ ap (λ w. if_found (at p e (f w)) (slice_get elements e)) h
found_in e p f w (stream width values) h = refl

elements_same : (e : ℕ) (f : Width → List ℤ → List ℤ) (k : Contents) → slice_get (elements_of (with_values f k)) e ≡ if_found (λ x. x) (slice_get (elements_of k) e)
elements_same e f (array width elements) = unchanged (λ x. x) (λ x. refl) (slice_get elements e)
elements_same e f (stream width values) = refl

values_same : (f : Width → List ℤ → List ℤ) (k : Contents) → values_if (with_elements f k) ≡ if_found (λ x. x) (values_if k)
values_same f (array width elements) = refl
values_same f (stream width values) = refl

values_changed : (f : Width → List ℤ → List ℤ) (w : Width) (k : Contents) → width_of k ≡ w → values_if (with_values f k) ≡ if_found (f w) (values_if k)
values_changed f w (array width elements) h = refl
values_changed f w (stream width values) h = ap (λ w. Some (f w values)) h

-- what a change makes of an element of a container of a width
abbrev pub effect_on : Width → (l c e : ℕ) → Change → ℤ → ℤ
effect_on w l c e nothing x = x
effect_on w l c e (write to by v) x = at to.level l (at to.container c (at to.element e (written w by v))) x
effect_on w l c e (push m d v) x = at m l (at d c (λ x. x)) x
effect_on w l c e (take m d p) x = at m l (at d c (λ x. x)) x

pub element-changed : (l c e : ℕ) (change : Change) (s : Memories) →
    element_found (record { level = l; container = c; element = e }) (apply change s) ≡ if_found (effect_on (container_width l c s) l c e change) (element_found (record { level = l; container = c; element = e }) s)
element-changed l c e nothing s = unchanged (λ x. x) (λ x. refl) _
element-changed l c e (write to by v) s =
    look_changed l c to.level to.container _ (λ k. slice_get (elements_of k) e) (at to.element e (written (container_width l c s) by v)) s
    (λ k h. found_in e to.element (λ width. written width by v) (container_width l c s) k (width_in l c s k h))
element-changed l c e (push m d v) s = look_changed l c m d _ (λ k. slice_get (elements_of k) e) (λ x. x) s (λ k h. elements_same e _ k)
element-changed l c e (take m d p) s = look_changed l c m d _ (λ k. slice_get (elements_of k) e) (λ x. x) s (λ k h. elements_same e _ k)

-- what a change makes of the values of a stream of a width
abbrev pub stream_effect : Width → (l c : ℕ) → Change → List ℤ → List ℤ
stream_effect w l c nothing xs = xs
stream_effect w l c (write to by v) xs = at to.level l (at to.container c (λ x. x)) xs
stream_effect w l c (push m d v) xs = at m l (at d c (appended v w)) xs
stream_effect w l c (take m d p) xs = at m l (at d c (without p)) xs

pub stream-changed : (l c : ℕ) (change : Change) (s : Memories) → stream_found l c (apply change s) ≡ if_found (stream_effect (container_width l c s) l c change) (stream_found l c s)
stream-changed l c nothing s = unchanged (λ x. x) (λ x. refl) (stream_found l c s)
stream-changed l c (write to by v) s = look_changed l c to.level to.container _ values_if (λ x. x) s (λ k h. values_same _ k)
stream-changed l c (push m d v) s = look_changed l c m d _ values_if (appended v (container_width l c s)) s (λ k h. values_changed (appended v) (container_width l c s) k (width_in l c s k h))
stream-changed l c (take m d p) s = look_changed l c m d _ values_if (without p) s (λ k h. values_changed (λ width. without p) (container_width l c s) k (width_in l c s k h))

-- ---- agreement is kept

width-agrees : (l c : ℕ) (change : Change) (s s' : Memories) → HaveOneWidth l c s s' → HaveOneWidth l c (apply change s) (apply change s')
width-agrees l c change s s' h = width-apply l c change s ∙ h ∙ sym (width-apply l c change s')

pub agree-apply : (r : Reading) (change : Change) (s s' : Memories) → AgreeAt r s s' → AgreeAt r (apply change s) (apply change s')
agree-apply (reads_element r) change s s' h = (
  element-changed r.level r.container r.element change s ∙ (λ i. if_found (effect_on (h.1 i) r.level r.container r.element change) (h.0 i)) ∙ sym (element-changed r.level r.container r.element change s'),
  width-agrees r.level r.container change s s' h.1,
)
agree-apply (reads_stream l c) change s s' h = (
  stream-changed l c change s ∙ (λ i. if_found (stream_effect (h.1 i) l c change) (h.0 i)) ∙ sym (stream-changed l c change s'),
  width-agrees l c change s s' h.1,
)

pub agree_on-apply : (rs : List Reading) (c : Change) (s s' : Memories) → AgreeOn rs s s' → AgreeOn rs (apply c s) (apply c s')
agree_on-apply [] c s s' h = tt
agree_on-apply (r ∷ rs) c s s' h = (agree-apply r c s s' h.0, agree_on-apply rs c s s' h.1)

pub agree_on-apply_all : (rs : List Reading) (cs : List Change) (s s' : Memories) → AgreeOn rs s s' → AgreeOn rs (apply_all cs s) (apply_all cs s')
agree_on-apply_all rs [] s s' h = h
agree_on-apply_all rs (c ∷ cs) s s' h = agree_on-apply_all rs cs (apply c s) (apply c s') (agree_on-apply rs c s s' h)

pub agree-first : (rs qs : List Reading) (s s' : Memories) → AgreeOn (rs ++ qs) s s' → AgreeOn rs s s'
agree-first [] qs s s' h = tt
agree-first (r ∷ rs) qs s s' h = (h.0, agree-first rs qs s s' h.1)

pub agree-rest : (rs qs : List Reading) (s s' : Memories) → AgreeOn (rs ++ qs) s s' → AgreeOn qs s s'
agree-rest [] qs s s' h = h
agree-rest (r ∷ rs) qs s s' h = agree-rest rs qs s s' h.1

pub apply_all-append : (cs ds : List Change) (s : Memories) → apply_all (cs ++ ds) s ≡ apply_all ds (apply_all cs s)
apply_all-append [] ds s = refl
apply_all-append (c ∷ cs) ds s = apply_all-append cs ds (apply c s)

-- ---- inside an owner

-- changes inside an owner leave outside what they are there
pub apply_all-outside : (cs : List Change) (own : Memory) (s : Memories) → drop 1 (apply_all cs (own ∷ s)) ≡ apply_all (map outer cs) s
apply_all-outside [] own s = refl
apply_all-outside (c ∷ cs) own s = ap (λ t. drop 1 (apply_all cs t)) (apply-own c own s) ∙ apply_all-outside cs _ (apply (outer c) s)

element_inside : (l c p : ℕ) (rs : List Reading) (own : Memory) (s s' : Memories) → AgreeOn (outer_element l c p rs) s s' →
    AgreeAt (reads_element (record { level = l; container = c; element = p })) (own ∷ s) (own ∷ s') × AgreeOn rs s s'
element_inside zero c p rs own s s' h = ((refl, refl), h)
element_inside (suc l) c p rs own s s' h = h

stream_inside : (l c : ℕ) (rs : List Reading) (own : Memory) (s s' : Memories) → AgreeOn (outer_stream l c rs) s s' → AgreeAt (reads_stream l c) (own ∷ s) (own ∷ s') × AgreeOn rs s s'
stream_inside zero c rs own s s' h = ((refl, refl), h)
stream_inside (suc l) c rs own s s' h = h

-- memories that agree outside on what is read there agree inside
pub agree-inside : (rs : List Reading) (own : Memory) (s s' : Memories) → AgreeOn (outer_readings rs) s s' → AgreeOn rs (own ∷ s) (own ∷ s')
agree-inside [] own s s' h = tt
agree-inside (reads_element r ∷ rs) own s s' h =
    let e = element_inside r.level r.container r.element (outer_readings rs) own s s' h in
    (e.0, agree-inside rs own s s' e.1)
agree-inside (reads_stream l c ∷ rs) own s s' h =
    let e = stream_inside l c (outer_readings rs) own s s' h in
    (e.0, agree-inside rs own s s' e.1)

-- ---- what is seen

-- the value of an element is what is found, or 0
pub look-found : (r : Reference) (s : Memories) → look r s ≡ or_default (pos 0) (element_found r s)
look-found r s = ap (λ k. slice_index_or (elements_of k) r.element (pos 0)) (contents-found r.level r.container s) ∙ in_contents (contents_found r.level r.container s)
  where
    in_contents : (o : Option Contents) → slice_index_or (elements_of (or_default (stream W64 []) o)) r.element (pos 0) ≡ or_default (pos 0) (option_and_then (λ k. slice_get (elements_of k) r.element) o)
    in_contents None = refl
    in_contents (Some k) = index-found (elements_of k) r.element (pos 0)

pub waiting-found : (l c : ℕ) (s : Memories) → waiting l c s ≡ or_default [] (stream_found l c s)
waiting-found l c s = ap values_of (contents-found l c s) ∙ in_contents (contents_found l c s)
  where
    in_contents : (o : Option Contents) → values_of (or_default (stream W64 []) o) ≡ or_default [] (option_and_then values_if o)
    in_contents None = refl
    in_contents (Some (array width elements)) = refl
    in_contents (Some (stream width values)) = refl

pub look-agrees : (r : Reference) (s s' : Memories) → AgreeAt (reads_element r) s s' → look r s' ≡ look r s
look-agrees r s s' h = look-found r s' ∙ ap (or_default (pos 0)) (sym h.0) ∙ sym (look-found r s)

pub waiting-agrees : (l c : ℕ) (s s' : Memories) → AgreeAt (reads_stream l c) s s' → waiting l c s' ≡ waiting l c s
waiting-agrees l c s s' h = waiting-found l c s' ∙ ap (or_default []) (sym h.0) ∙ sym (waiting-found l c s)

pub seen-agrees : (r : Option Reference) (s s' : Memories) → AgreeOn (read_at r) s s' → seen r s' ≡ seen r s
seen-agrees None s s' h = refl
seen-agrees (Some r) s s' h = ap Some (look-agrees r s s' h.0)

all_seen-agrees : (rs : List (Option Reference)) (s s' : Memories) → AgreeOn (reads_up_to rs) s s' → all_seen rs s' ≡ all_seen rs s
all_seen-agrees [] s s' h = refl
all_seen-agrees (None ∷ rs) s s' h = refl
all_seen-agrees (Some r ∷ rs) s s' h =
    let e = look-agrees r s s' h.0 in
    let e' = all_seen-agrees rs s s' h.1 in
    λ i. with_value (Some (e i)) (e' i)

passed-agrees : {P : Type 0} (g : Option (Guard P)) (s s' : Memories) → AgreeOn (guard_reads g) s s' → passed g s' ≡ passed g s
passed-agrees None s s' h = refl
passed-agrees (Some g) s s' h = ap (decided g) (all_seen-agrees g.reads s s' h)

-- later exits, where they are asked
later-agree : {P : Type 0} (o : Result Bool (Fault P)) (e : Exit P) (x x' : Result (Option (Exit P)) (Fault P)) (rs rs' : List Reading) (s s' : Memories) →
    (AgreeOn rs s s' → (x' ≡ x) × (rs' ≡ rs)) → AgreeOn (unless_passed o rs) s s' →
    (or_later o e x' ≡ or_later o e x) × (unless_passed o rs' ≡ unless_passed o rs)
later-agree (Err f) e x x' rs rs' s s' h k = (refl, refl)
later-agree (Ok true) e x x' rs rs' s s' h k = (refl, refl)
later-agree (Ok false) e x x' rs rs' s s' h k = h k

-- the exit that is taken, and what the conditions read up to it
pub exits-agree : {P : Type 0} (es : List (Exit P)) (s s' : Memories) → AgreeOn (exits_read es s) s s' →
    (first_exit es s' ≡ first_exit es s) × (exits_read es s' ≡ exits_read es s)
exits-agree [] s s' h = (refl, refl)
exits-agree {P} (e ∷ es) s s' h =
    let p : passed e.when s' ≡ passed e.when s = passed-agrees e.when s s' (agree-first (guard_reads e.when) _ s s' h) in
    let k = later-agree (passed e.when s) e (first_exit es s) (first_exit es s') (exits_read es s) (exits_read es s') s s' (exits-agree es s s') (agree-rest (guard_reads e.when) _ s s' h) in (
      ap (λ o. or_later o e (first_exit es s')) p ∙ k.0,
      ap (λ o. guard_reads e.when ++ unless_passed o (exits_read es s')) p ∙ ap (λ rs. guard_reads e.when ++ rs) k.1,
    )
