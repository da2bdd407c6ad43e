-- What changes do to each element and stream, and what they come to from another memory.
use Rattle.std.proofs.Common.{◌≡◌, ◌⊎◌, inl, inr, ℕ, zero, suc, ℤ, List, [], ◌∷◌, ◌++◌, Option, Some, None, refl, sym, ◌∙◌, ap, subst, arith}
use Rattle.std.specs.Bool.{⊤}
use Rattle.sd_num.specs.Width.{wrapped_to}
use Rattle.sd_num.specs.Resolution.{stored}
use Rattle.sd_num.specs.declared.width.Width.{Width}
use Rattle.sd_num.specs.declared.resolution.Resolution.{Resolution}
use Rattle.sd_num.proofs.StoredLemmas.{stored-assoc}
use Rattle.sd_work.specs.Memory.{Memories, Reference}
use Rattle.sd_work.specs.Change.{Change, nothing, write, push, take, written, without, appended as with_newest, apply}
use Rattle.sd_work.proofs.Changes.{width-apply}
use Rattle.sd_pieces.specs.course.Reading.{element_found, stream_found, container_width, apply_all}
use Rattle.sd_pieces.specs.course.Touched.{IsChangeBy, AreChangesBy}
use Rattle.sd_pieces.proofs.course_lemmas.Readings.{at, if_found, unchanged, effect_on, element-changed, stream_effect, stream-changed}
use Rattle.sd_work.specs.Touch.{Touch, writes}
use Rattle.sd_pieces.specs.cut.Naming.{Naming, names_at, IsTouchNamed}
use Rattle.sd_pieces.specs.cut.Merged.{Mark, untouched, kept, gathered, StreamMark, unused, drained, appended, Marking, IsMarked}
use Rattle.sd_pieces.proofs.cut_lemmas.NamedMemories.{same_or_two, at-same, at-other}

-- ---- an element

-- what changes make of an element of a container of a width
abbrev pub effects_on : Width → (l c e : ℕ) → List Change → ℤ → ℤ
effects_on w l c e [] x = x
effects_on w l c e (change ∷ changes) x = effects_on w l c e changes (effect_on w l c e change x)

twice : {A : Type 0} (f g : A → A) (o : Option A) → if_found f (if_found g o) ≡ if_found (λ x. f (g x)) o
twice f g None = refl
twice f g (Some x) = refl

pub element-after : (l c e : ℕ) (changes : List Change) (s : Memories) →
    element_found (record { level = l; container = c; element = e }) (apply_all changes s) ≡ if_found (effects_on (container_width l c s) l c e changes) (element_found (record { level = l; container = c; element = e }) s)
element-after l c e [] s = unchanged (λ x. x) (λ x. refl) _
element-after l c e (change ∷ changes) s =
    element-after l c e changes (apply change s)
    ∙ (λ i. if_found (effects_on (width-apply l c change s i) l c e changes) (element-changed l c e change s i))
    ∙ twice (effects_on (container_width l c s) l c e changes) (effect_on (container_width l c s) l c e change) _

pub at-nothing : {A : Type 0} (i j : ℕ) (x : A) → at i j (λ x. x) x ≡ x
at-nothing zero zero x = refl
at-nothing zero (suc j) x = refl
at-nothing (suc i) zero x = refl
at-nothing (suc i) (suc j) x = at-nothing i j x

pub at-within : {A : Type 0} (i j : ℕ) (f : A → A) → ((x : A) → f x ≡ x) → (x : A) → at i j f x ≡ x
at-within zero zero f h x = h x
at-within zero (suc j) f h x = refl
at-within (suc i) zero f h x = refl
at-within (suc i) (suc j) f h x = at-within i j f h x

-- a change that is no write there
abbrev pub IsTo : (l c e : ℕ) → Reference → Type 0
IsTo l c e to = (to.level ≡ l) × (to.container ≡ c) × (to.element ≡ e)

-- what a write makes of an element: nothing, or it is to this element
abbrev pub WritesSo : (l c e : ℕ) → Reference → (ℤ → ℤ) → Type 0
WritesSo l c e to f =
    ((x : ℤ) → at to.level l (at to.container c (at to.element e f)) x ≡ x) ⊎ (IsTo l c e to × ((x : ℤ) → at to.level l (at to.container c (at to.element e f)) x ≡ f x))

pub write-effect : (l c e : ℕ) (to : Reference) (f : ℤ → ℤ) → WritesSo l c e to f
write-effect l c e to f = by_level (same_or_two to.level l)
  where
    by_element : to.level ≡ l → to.container ≡ c → (to.element ≡ e) ⊎ (to.element ≡ e → ⊥) → WritesSo l c e to f
    by_element p q (inl r) = inr ((p, q, r), λ x. at-same to.level l p (at to.container c (at to.element e f)) x ∙ at-same to.container c q (at to.element e f) x ∙ at-same to.element e r f x)
    by_element p q (inr n) = inl (λ x. at-same to.level l p (at to.container c (at to.element e f)) x ∙ at-same to.container c q (at to.element e f) x ∙ at-other to.element e n f x)

    by_container : to.level ≡ l → (to.container ≡ c) ⊎ (to.container ≡ c → ⊥) → WritesSo l c e to f
    by_container p (inl q) = by_element p q (same_or_two to.element e)
    by_container p (inr n) = inl (λ x. at-same to.level l p (at to.container c (at to.element e f)) x ∙ at-other to.container c n (at to.element e f) x)

    by_level : (to.level ≡ l) ⊎ (to.level ≡ l → ⊥) → WritesSo l c e to f
    by_level (inl p) = by_container p (same_or_two to.container c)
    by_level (inr n) = inl (λ x. at-other to.level l n (at to.container c (at to.element e f)) x)

-- ---- marks

abbrev IsMark : Mark → Mark → Type 0
IsMark untouched untouched = ⊤
IsMark untouched kept = ⊥
IsMark untouched (gathered by) = ⊥
IsMark kept untouched = ⊥
IsMark kept kept = ⊤
IsMark kept (gathered by) = ⊥
IsMark (gathered by) untouched = ⊥
IsMark (gathered by) kept = ⊥
IsMark (gathered by) (gathered other) = by ≡ other

itself : (m : Mark) → IsMark m m
itself untouched = tt
itself kept = tt
itself (gathered by) = refl

are-marks : (m n : Mark) → m ≡ n → IsMark m n
are-marks m n e = subst (IsMark m) e (itself m)

-- the mark of the element that a touch is of
mark-here : (marking : Marking) (l c e : ℕ) (to : Reference) → IsTo l c e to → marking.element to.container to.element ≡ marking.element c e
mark-here marking l c e to h = λ i. marking.element (h.1 i) (h.2 i)

-- changes leave an element that none of their touches writes
spared-after : (By : Touch → Type 0) (w : Width) (c e : ℕ) (changes : List Change) → AreChangesBy By changes →
    ((to : Reference) (by : Option Resolution) → IsTo 0 c e to → By (writes to by) → ⊥) → (x : ℤ) → effects_on w 0 c e changes x ≡ x
spared-after By w c e [] h never x = refl
spared-after By w c e (change ∷ changes) h never x = ap (effects_on w 0 c e changes) (on change h.0) ∙ spared-after By w c e changes h.1 never x
  where
    on : (change : Change) → IsChangeBy By change → effect_on w 0 c e change x ≡ x
    on nothing k = refl
    on (push l d v) k = at-within l 0 (at d c (λ x. x)) (at-nothing d c) x
    on (take l d p) k = at-within l 0 (at d c (λ x. x)) (at-nothing d c) x
    on (write to by v) k = either (write-effect 0 c e to (written w by v))
      where
        either : WritesSo 0 c e to (written w by v) → effect_on w 0 c e (write to by v) x ≡ x
        either (inl p) = p x
        either (inr p) = elim (never to by p.0 k) [ ]

-- changes of marked touches leave an element that is not touched
pub untouched-after : (marking : Marking) (w : Width) (c e : ℕ) (changes : List Change) → AreChangesBy (IsMarked marking) changes → marking.element c e ≡ untouched → (x : ℤ) → effects_on w 0 c e changes x ≡ x
untouched-after marking w c e changes h m = spared-after (IsMarked marking) w c e changes h never
  where
    against : (to : Reference) (by : Option Resolution) → IsTo 0 c e to →
        (marking.element to.container to.element ≡ kept) ⊎ ((resolution : Resolution) × (by ≡ Some resolution) × (marking.element to.container to.element ≡ gathered resolution)) → ⊥
    against to by t (inl q) = are-marks untouched kept (sym m ∙ sym (mark-here marking 0 c e to t) ∙ q)
    against to by t (inr q) = are-marks untouched (gathered q.0) (sym m ∙ sym (mark-here marking 0 c e to t) ∙ q.2)

    never : (to : Reference) (by : Option Resolution) → IsTo 0 c e to → IsMarked marking (writes to by) → ⊥
    never to by t k = against to by t k.1

-- changes of touches that have numbers leave an element without one
pub unnumbered-after : (naming : Naming) (w : Width) (c e : ℕ) (changes : List Change) → AreChangesBy (IsTouchNamed naming 0) changes → naming c e ≡ None → (x : ℤ) → effects_on w 0 c e changes x ≡ x
unnumbered-after naming w c e changes h n = spared-after (IsTouchNamed naming 0) w c e changes h never
  where
    at_level : (l : ℕ) (to : Reference) → l ≡ 0 → (number : ℕ) × (names_at naming 0 l to.container to.element ≡ Some number) → (number : ℕ) × (naming to.container to.element ≡ Some number)
    at_level zero to p k = k
    at_level (suc l) to p k = absurd (omega arith)

    here : (to : Reference) → IsTo 0 c e to → naming to.container to.element ≡ None
    here to t = (λ i. naming (t.1 i) (t.2 i)) ∙ n

    never : (to : Reference) (by : Option Resolution) → IsTo 0 c e to → IsTouchNamed naming 0 (writes to by) → ⊥
    never to by t k = let r = at_level to.level to t.0 k in let no : None ≡ Some r.0 = sym (here to t) ∙ r.1 in cc

-- what is stored in an element from another one on, is stored in it as a whole
pub gathered-after : (marking : Marking) (w : Width) (c e : ℕ) (r : Resolution) (changes : List Change) → AreChangesBy (IsMarked marking) changes → marking.element c e ≡ gathered r →
    (x y : ℤ) → effects_on w 0 c e changes (stored w (Some r) x y) ≡ stored w (Some r) x (effects_on w 0 c e changes y)
gathered-after marking w c e r [] h m x y = refl
gathered-after marking w c e r (change ∷ changes) h m x y = ap (effects_on w 0 c e changes) (on change h.0) ∙ gathered-after marking w c e r changes h.1 m x (effect_on w 0 c e change y)
  where
    same : (change : Change) → ((z : ℤ) → effect_on w 0 c e change z ≡ z) → effect_on w 0 c e change (stored w (Some r) x y) ≡ stored w (Some r) x (effect_on w 0 c e change y)
    same change p = p (stored w (Some r) x y) ∙ ap (stored w (Some r) x) (sym (p y))

    on : (change : Change) → IsChangeBy (IsMarked marking) change → effect_on w 0 c e change (stored w (Some r) x y) ≡ stored w (Some r) x (effect_on w 0 c e change y)
    on nothing k = refl
    on (push l d v) k = same (push l d v) (at-within l 0 (at d c (λ x. x)) (at-nothing d c))
    on (take l d p) k = same (take l d p) (at-within l 0 (at d c (λ x. x)) (at-nothing d c))
    on (write to by v) k = either (write-effect 0 c e to (written w by v))
      where
        is_by : IsTo 0 c e to → (marking.element to.container to.element ≡ kept) ⊎ ((resolution : Resolution) × (by ≡ Some resolution) × (marking.element to.container to.element ≡ gathered resolution)) → by ≡ Some r
        is_by t (inl q) = elim (are-marks (gathered r) kept (sym m ∙ sym (mark-here marking 0 c e to t) ∙ q)) [ ]
        is_by t (inr q) = q.1 ∙ ap Some (sym (are-marks (gathered r) (gathered q.0) (sym m ∙ sym (mark-here marking 0 c e to t) ∙ q.2)))

        either : WritesSo 0 c e to (written w by v) → effect_on w 0 c e (write to by v) (stored w (Some r) x y) ≡ stored w (Some r) x (effect_on w 0 c e (write to by v) y)
        either (inl p) = same (write to by v) p
        either (inr p) =
            let by_r : (z : ℤ) → effect_on w 0 c e (write to by v) z ≡ stored w (Some r) z v = λ z. p.1 z ∙ ap (λ b. written w b v z) (is_by p.0 k.1) in
            by_r (stored w (Some r) x y) ∙ stored-assoc w r x y v ∙ ap (stored w (Some r) x) (sym (by_r y))

-- ---- a stream

-- what changes make of the values of a stream of a width
abbrev pub stream_effects : Width → (l c : ℕ) → List Change → List ℤ → List ℤ
stream_effects w l c [] xs = xs
stream_effects w l c (change ∷ changes) xs = stream_effects w l c changes (stream_effect w l c change xs)

pub stream-after : (l c : ℕ) (changes : List Change) (s : Memories) → stream_found l c (apply_all changes s) ≡ if_found (stream_effects (container_width l c s) l c changes) (stream_found l c s)
stream-after l c [] s = unchanged (λ x. x) (λ x. refl) (stream_found l c s)
stream-after l c (change ∷ changes) s =
    stream-after l c changes (apply change s)
    ∙ (λ i. if_found (stream_effects (width-apply l c change s i) l c changes) (stream-changed l c change s i))
    ∙ twice (stream_effects (container_width l c s) l c changes) (stream_effect (container_width l c s) l c change) (stream_found l c s)

abbrev IsStreamMark : StreamMark → StreamMark → Type 0
IsStreamMark unused unused = ⊤
IsStreamMark unused drained = ⊥
IsStreamMark unused appended = ⊥
IsStreamMark drained unused = ⊥
IsStreamMark drained drained = ⊤
IsStreamMark drained appended = ⊥
IsStreamMark appended unused = ⊥
IsStreamMark appended drained = ⊥
IsStreamMark appended appended = ⊤

stream-itself : (m : StreamMark) → IsStreamMark m m
stream-itself unused = tt
stream-itself drained = tt
stream-itself appended = tt

are-stream-marks : (m n : StreamMark) → m ≡ n → IsStreamMark m n
are-stream-marks m n e = subst (IsStreamMark m) e (stream-itself m)

-- a function at a container: nothing, or it is this one
abbrev ActsSo : (l c m d : ℕ) → (List ℤ → List ℤ) → Type 0
ActsSo l c m d f = ((x : List ℤ) → at m l (at d c f) x ≡ x) ⊎ ((d ≡ c) × ((x : List ℤ) → at m l (at d c f) x ≡ f x))

acts : (l c m d : ℕ) (f : List ℤ → List ℤ) → ActsSo l c m d f
acts l c m d f = by_level (same_or_two m l)
  where
    by_container : m ≡ l → (d ≡ c) ⊎ (d ≡ c → ⊥) → ActsSo l c m d f
    by_container p (inl q) = inr (q, λ x. at-same m l p (at d c f) x ∙ at-same d c q f x)
    by_container p (inr n) = inl (λ x. at-same m l p (at d c f) x ∙ at-other d c n f x)

    by_level : (m ≡ l) ⊎ (m ≡ l → ⊥) → ActsSo l c m d f
    by_level (inl p) = by_container p (same_or_two d c)
    by_level (inr n) = inl (λ x. at-other m l n (at d c f) x)

pub unused-after : (marking : Marking) (w : Width) (c : ℕ) (changes : List Change) → AreChangesBy (IsMarked marking) changes → marking.stream c ≡ unused → (xs : List ℤ) → stream_effects w 0 c changes xs ≡ xs
unused-after marking w c [] h m xs = refl
unused-after marking w c (change ∷ changes) h m xs = ap (stream_effects w 0 c changes) (on change h.0) ∙ unused-after marking w c changes h.1 m xs
  where
    here : (d : ℕ) → d ≡ c → marking.stream d ≡ unused
    here d q = ap marking.stream q ∙ m

    pushed : (d : ℕ) → d ≡ c → (marking.stream d ≡ drained) ⊎ (marking.stream d ≡ appended) → ⊥
    pushed d q (inl k) = are-stream-marks unused drained (sym (here d q) ∙ k)
    pushed d q (inr k) = are-stream-marks unused appended (sym (here d q) ∙ k)

    either : (l d : ℕ) (f : List ℤ → List ℤ) → (d ≡ c → ⊥) → ActsSo 0 c l d f → at l 0 (at d c f) xs ≡ xs
    either l d f n (inl p) = p xs
    either l d f n (inr p) = elim (n p.0) [ ]

    on : (change : Change) → IsChangeBy (IsMarked marking) change → stream_effect w 0 c change xs ≡ xs
    on nothing k = refl
    on (write to by v) k = at-within to.level 0 (at to.container c (λ x. x)) (at-nothing to.container c) xs
    on (push l d v) k = either l d _ (λ q. pushed d q k.1) (acts 0 c l d (with_newest v w))
    on (take l d p) k = either l d _ (λ q. are-stream-marks unused drained (sym (here d q) ∙ k.1)) (acts 0 c l d (without p))

append-again : (xs ys zs : List ℤ) → (xs ++ ys) ++ zs ≡ xs ++ (ys ++ zs)
append-again [] ys zs = refl
append-again (x ∷ xs) ys zs = ap (λ l. x ∷ l) (append-again xs ys zs)

-- what is appended to an empty stream is appended to the values of another as a whole
pub appended-after : (marking : Marking) (w : Width) (c : ℕ) (changes : List Change) → AreChangesBy (IsMarked marking) changes → marking.stream c ≡ appended → (xs ys : List ℤ) →
    stream_effects w 0 c changes (xs ++ ys) ≡ xs ++ stream_effects w 0 c changes ys
appended-after marking w c [] h m xs ys = refl
appended-after marking w c (change ∷ changes) h m xs ys =
    ap (stream_effects w 0 c changes) (on change h.0) ∙ appended-after marking w c changes h.1 m xs (stream_effect w 0 c change ys)
  where
    same : (f : List ℤ → List ℤ) → ((x : List ℤ) → f x ≡ x) → f (xs ++ ys) ≡ xs ++ f ys
    same f p = p (xs ++ ys) ∙ ap (λ l. xs ++ l) (sym (p ys))

    taken : (l d p : ℕ) → marking.stream d ≡ drained → ActsSo 0 c l d (without p) → at l 0 (at d c (without p)) (xs ++ ys) ≡ xs ++ at l 0 (at d c (without p)) ys
    taken l d p k (inl q) = same (at l 0 (at d c (without p))) q
    taken l d p k (inr q) = elim (are-stream-marks appended drained (sym (ap marking.stream q.0 ∙ m) ∙ k)) [ ]

    pushed : (l d : ℕ) (v : ℤ) → ActsSo 0 c l d (with_newest v w) →
        at l 0 (at d c (with_newest v w)) (xs ++ ys) ≡ xs ++ at l 0 (at d c (with_newest v w)) ys
    pushed l d v (inl q) = same (at l 0 (at d c (with_newest v w))) q
    pushed l d v (inr q) = q.1 (xs ++ ys) ∙ append-again xs ys (wrapped_to w v ∷ []) ∙ ap (λ l. xs ++ l) (sym (q.1 ys))

    on : (change : Change) → IsChangeBy (IsMarked marking) change → stream_effect w 0 c change (xs ++ ys) ≡ xs ++ stream_effect w 0 c change ys
    on nothing k = refl
    on (write to by v) k = same (at to.level 0 (at to.container c (λ x. x))) (at-within to.level 0 (at to.container c (λ x. x)) (at-nothing to.container c))
    on (push l d v) k = pushed l d v (acts 0 c l d (with_newest v w))
    on (take l d p) k = taken l d p k.1 (acts 0 c l d (without p))
