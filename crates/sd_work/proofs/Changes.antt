-- What changes of memories keep, and when two of them commute.
use Rattle.std.proofs.Common.{◌≡◌, ◌≢◌, ℕ, zero, suc, List, [], ◌∷◌, Option, Some, None, ℤ, pos, slice_index_or, refl, sym, ◌∙◌, ap, subst, FitsSigned, w64}
use Rattle.std.proofs.lemmas.Int.{int_wrap_fits}
use Rattle.sd_num.specs.Width.{wrapped_to, IsElement}
use Rattle.sd_num.specs.Resolution.{resolved}
use Rattle.sd_num.specs.declared.width.Width.{Width}
use Rattle.sd_num.specs.declared.resolution.Resolution.{Resolution}
use Rattle.sd_num.proofs.ResolutionLemmas.{FitsSigned-resolved}
use Rattle.sd_num.proofs.StoredLemmas.{wrapped_to-element, stored-exchanges, IsElement-stored}
use Rattle.sd_num.specs.declared.width.Width.TheVariants.{W64}
use Rattle.sd_work.specs.Memory.{Contents, array, stream, Memory, Memories, Reference, width_of, elements_of, values_of, contents_of, look, waiting}
use Rattle.sd_work.specs.Change.{Change, nothing, write, push, take, became, written, changed_at, with_elements, with_values, with_contents, apply, outer, outer_write, own_after}
use Rattle.sd_work.specs.Harmless.{SameCommuting, AreTwo, AreHarmless, SparesElement, SparesStream}

-- changes of two members commute, and of one member where the two changes do
pub changed_at-changed_at : {A : Type 0} (i j : ℕ) (f g : A → A) → (i ≡ j → (x : A) → f (g x) ≡ g (f x)) → (xs : List A) → changed_at i f (changed_at j g xs) ≡ changed_at j g (changed_at i f xs)
changed_at-changed_at i j f g h [] = refl
changed_at-changed_at zero zero f g h (x ∷ xs) = ap (λ y. y ∷ xs) (h refl x)
changed_at-changed_at zero (suc j) f g h (x ∷ xs) = refl
changed_at-changed_at (suc i) zero f g h (x ∷ xs) = refl
changed_at-changed_at (suc i) (suc j) f g h (x ∷ xs) = ap (λ ys. x ∷ ys) (changed_at-changed_at i j f g (λ e. h (ap suc e)) xs)

-- what is seen of a member is kept by a change of another one, and by a change that keeps what is seen
pub seen-changed_at : {A B : Type 0} (d : A) (q : A → B) (i j : ℕ) (f : A → A) → (i ≡ j → (x : A) → q (f x) ≡ q x) → (xs : List A) → q (slice_index_or (changed_at j f xs) i d) ≡ q (slice_index_or xs i d)
seen-changed_at d q i j f h [] = refl
seen-changed_at d q zero zero f h (x ∷ xs) = h refl x
seen-changed_at d q zero (suc j) f h (x ∷ xs) = refl
seen-changed_at d q (suc i) zero f h (x ∷ xs) = refl
seen-changed_at d q (suc i) (suc j) f h (x ∷ xs) = seen-changed_at d q i j f (λ e. h (ap suc e)) xs

-- a reference is its three numbers
pub same_reference : (r q : Reference) → r.level ≡ q.level → r.container ≡ q.container → r.element ≡ q.element → r ≡ q
same_reference r q a b c = λ i. record { level = a i; container = b i; element = c i }

-- ---- what is written to one element

-- two values are written in either order where one resolution that commutes resolves both
pub written-written : (width : Width) (by to : Option Resolution) → SameCommuting by to → (v w old : ℤ) → written width by v (written width to w old) ≡ written width to w (written width by v old)
written-written width None to h v w old = elim h [ ]
written-written width (Some r) None h v w old = elim h [ ]
written-written width (Some r) (Some q) h v w old =
    subst (λ z. written width (Some r) v (written width (Some z) w old) ≡ written width (Some z) w (written width (Some r) v old)) h.0 (stored-exchanges width r h.1 old w v)

-- an element that is written is the new one, or the two resolved, and what they come to is wrapped
pub written-became : (width : Width) (by : Option Resolution) (value old : ℤ) → IsElement width value → IsElement width old → written width by value old ≡ wrapped_to width (became by old value)
written-became width None value old p q = refl
written-became width (Some r) value old p q =
    λ i. wrapped_to width (resolved r (wrapped_to-element width old q i) (wrapped_to-element width value p i))

-- at 64 bits the new one, or the two resolved, is an element as it is
pub written-wide : (by : Option Resolution) (value old : ℤ) → FitsSigned w64 value → FitsSigned w64 old → written W64 by value old ≡ became by old value
written-wide None value old p q = int_wrap_fits w64 value p
written-wide (Some r) value old p q = written-became W64 (Some r) value old p q ∙ int_wrap_fits w64 _ (FitsSigned-resolved r old value q p)

-- what is written is an element
pub IsElement-written : (width : Width) (by : Option Resolution) (value old : ℤ) → IsElement width (written width by value old)
IsElement-written width by value old = IsElement-stored width by old value

-- ---- two changes

elements_commute : (f g : Width → List ℤ → List ℤ) → ((width : Width) (xs : List ℤ) → f width (g width xs) ≡ g width (f width xs)) → (c : Contents) → with_elements f (with_elements g c) ≡ with_elements g (with_elements f c)
elements_commute f g h (array width elements) = ap (array width) (h width elements)
elements_commute f g h (stream width values) = refl

kinds_commute : (f g : Width → List ℤ → List ℤ) → (c : Contents) → with_elements f (with_values g c) ≡ with_values g (with_elements f c)
kinds_commute f g (array width elements) = refl
kinds_commute f g (stream width values) = refl

-- a write and a change of a stream
write_and_stream : (to : Reference) (l c : ℕ) (f g : Width → List ℤ → List ℤ) (s : Memories) →
    with_contents to.level to.container (with_elements f) (with_contents l c (with_values g) s) ≡ with_contents l c (with_values g) (with_contents to.level to.container (with_elements f) s)
write_and_stream to l c f g s =
    changed_at-changed_at to.level l _ _ (λ e m. changed_at-changed_at to.container c _ _ (λ e' k. kinds_commute f g k) m) s

-- changes of two streams
two_streams : (l c m d : ℕ) → AreTwo l c m d → (f g : Width → List ℤ → List ℤ) (s : Memories) →
    with_contents l c (with_values f) (with_contents m d (with_values g) s) ≡ with_contents m d (with_values g) (with_contents l c (with_values f) s)
two_streams l c m d h f g s =
    changed_at-changed_at l m _ _ (λ e k. changed_at-changed_at c d _ _ (λ e' x. elim (h e e') [ ]) k) s

pub apply-apply : (change other : Change) → AreHarmless change other → (s : Memories) → apply change (apply other s) ≡ apply other (apply change s)
apply-apply nothing nothing h s = refl
apply-apply nothing (write q to y) h s = refl
apply-apply nothing (push l c y) h s = refl
apply-apply nothing (take l c k) h s = refl
apply-apply (write r by x) nothing h s = refl
apply-apply (push l c x) nothing h s = refl
apply-apply (take l c k) nothing h s = refl
apply-apply (write r by x) (write q to y) h s =
    changed_at-changed_at r.level q.level _ _ (λ e m. changed_at-changed_at r.container q.container _ _ (λ e' c.
    elements_commute _ _ (λ width. changed_at-changed_at r.element q.element _ _ (λ e''. written-written width by to (h (same_reference r q e e' e'')) x y)) c) m) s
apply-apply (write r by x) (push l c y) h s = write_and_stream r l c _ _ s
apply-apply (write r by x) (take l c k) h s = write_and_stream r l c _ _ s
apply-apply (push l c x) (write q to y) h s = sym (write_and_stream q l c _ _ s)
apply-apply (take l c k) (write q to y) h s = sym (write_and_stream q l c _ _ s)
apply-apply (push l c x) (push m d y) h s = two_streams l c m d h _ _ s
apply-apply (push l c x) (take m d k) h s = two_streams l c m d h _ _ s
apply-apply (take l c k) (push m d y) h s = two_streams l c m d h _ _ s
apply-apply (take l c k) (take m d j) h s = two_streams l c m d h _ _ s

-- ---- looking after a change

-- what is seen of a container is kept by a change of another one, and by a change that keeps what is seen
seen-with_contents : {B : Type 0} (q : Contents → B) (l c m d : ℕ) (f : Contents → Contents) → (l ≡ m → c ≡ d → (k : Contents) → q (f k) ≡ q k) → (s : Memories) →
    q (contents_of l c (with_contents m d f s)) ≡ q (contents_of l c s)
seen-with_contents q l c m d f h s =
    seen-changed_at [] (λ memory. q (slice_index_or memory c (stream W64 []))) l m _ (λ e memory. seen-changed_at (stream W64 []) q c d f (λ e' k. h e e' k) memory) s

elements_stay : (f : Width → List ℤ → List ℤ) (c : Contents) → elements_of (with_values f c) ≡ elements_of c
elements_stay f (array width elements) = refl
elements_stay f (stream width values) = refl

values_stay : (f : Width → List ℤ → List ℤ) (c : Contents) → values_of (with_elements f c) ≡ values_of c
values_stay f (array width elements) = refl
values_stay f (stream width values) = refl

other_element : (p j : ℕ) (f : Width → ℤ → ℤ) → (p ≡ j → ⊥) → (c : Contents) → slice_index_or (elements_of (with_elements (λ width. changed_at j (f width)) c)) p (pos 0) ≡ slice_index_or (elements_of c) p (pos 0)
other_element p j f h (array width elements) = seen-changed_at (pos 0) (λ x. x) p j (f width) (λ e x. elim (h e) [ ]) elements
other_element p j f h (stream width values) = refl

pub look-apply : (r : Reference) (change : Change) → SparesElement r change → (s : Memories) → look r (apply change s) ≡ look r s
look-apply r nothing h s = refl
look-apply r (write q by x) h s =
    seen-with_contents (λ c. slice_index_or (elements_of c) r.element (pos 0)) r.level r.container q.level q.container _
    (λ e e' c. other_element r.element q.element _ (λ e''. h (same_reference r q e e' e'')) c) s
look-apply r (push l c x) h s =
    seen-with_contents (λ k. slice_index_or (elements_of k) r.element (pos 0)) r.level r.container l c _
    (λ e e' k. ap (λ elements. slice_index_or elements r.element (pos 0)) (elements_stay _ k)) s
look-apply r (take l c j) h s =
    seen-with_contents (λ k. slice_index_or (elements_of k) r.element (pos 0)) r.level r.container l c _
    (λ e e' k. ap (λ elements. slice_index_or elements r.element (pos 0)) (elements_stay _ k)) s

pub waiting-apply : (l c : ℕ) (change : Change) → SparesStream l c change → (s : Memories) → waiting l c (apply change s) ≡ waiting l c s
waiting-apply l c nothing h s = refl
waiting-apply l c (write q by x) h s = seen-with_contents values_of l c q.level q.container _ (λ e e' k. values_stay _ k) s
waiting-apply l c (push m d x) h s = seen-with_contents values_of l c m d _ (λ e e' k. elim (h e e') [ ]) s
waiting-apply l c (take m d j) h s = seen-with_contents values_of l c m d _ (λ e e' k. elim (h e e') [ ]) s

-- a change keeps the width of each container
elements_width : (f : Width → List ℤ → List ℤ) (c : Contents) → width_of (with_elements f c) ≡ width_of c
elements_width f (array width elements) = refl
elements_width f (stream width values) = refl

values_width : (f : Width → List ℤ → List ℤ) (c : Contents) → width_of (with_values f c) ≡ width_of c
values_width f (array width elements) = refl
values_width f (stream width values) = refl

pub width-apply : (l c : ℕ) (change : Change) (s : Memories) → width_of (contents_of l c (apply change s)) ≡ width_of (contents_of l c s)
width-apply l c nothing s = refl
width-apply l c (write q by x) s = seen-with_contents width_of l c q.level q.container _ (λ e e' k. elements_width _ k) s
width-apply l c (push m d x) s = seen-with_contents width_of l c m d _ (λ e e' k. values_width _ k) s
width-apply l c (take m d j) s = seen-with_contents width_of l c m d _ (λ e e' k. values_width _ k) s

-- ---- a change seen from outside

-- a change splits at an owner: what it leaves in the owner's memory, and what it is outside
pub apply-own : (change : Change) (own : Memory) (s : Memories) → apply change (own ∷ s) ≡ own_after change own ∷ apply (outer change) s
apply-own nothing own s = refl
apply-own (write r by x) own s = at_level r.level r.container r.element by x own s
  where
    at_level : (l c p : ℕ) (by : Option Resolution) (x : ℤ) (own : Memory) (s : Memories) →
        apply (write (record { level = l; container = c; element = p }) by x) (own ∷ s) ≡ own_after (write (record { level = l; container = c; element = p }) by x) own ∷ apply (outer_write l c p by x) s
    at_level zero c p by x own s = refl
    at_level (suc l) c p by x own s = refl
apply-own (push zero c x) own s = refl
apply-own (push (suc l) c x) own s = refl
apply-own (take zero c k) own s = refl
apply-own (take (suc l) c k) own s = refl
