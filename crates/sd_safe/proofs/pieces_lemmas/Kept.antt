-- What accesses keep or drain stays as it was by work that is apart from them.
use Rattle.std.specs.List.{AllByRecursion}
use Rattle.std.proofs.Common.{◌≡◌, ◌≢◌, zero, suc, ℕ, ℤ, List, [], ◌∷◌, Option, Some, None, option_and_then, slice_get, refl, ap, sym, ◌∙◌, subst}
use Rattle.sd_num.specs.declared.width.Width.{Width}
use Rattle.sd_num.specs.declared.resolution.Resolution.{Resolution}
use Rattle.sd_work.specs.Memory.{Contents, array, stream, Memory, Memories, Reference, elements_of}
use Rattle.sd_work.specs.Change.{Change, nothing, write, push, take, changed_at, with_elements, with_values, with_contents, apply}
use Rattle.sd_work.specs.Harmless.{SparesElement, SparesStream}
use Rattle.sd_work.specs.Residual.{Term}
use Rattle.sd_work.specs.BigStep.{reached, big_step}
use Rattle.sd_work.specs.Touch.{Touch, writes, pushes, takes, Touches}
use Rattle.sd_work.proofs.Changes.{same_reference, width-apply}
use Rattle.sd_pieces.specs.course.Reading.{reads_element, reads_stream, contents_found, values_if, element_found, stream_found, container_width, HaveOneWidth, AgreeAt, apply_all}
use Rattle.sd_pieces.specs.course.Course.{course}
use Rattle.sd_pieces.specs.course.Touched.{IsChangeBy}
use Rattle.sd_pieces.specs.cut.Merged.{Marking, outermost, IsPrepared}
use Rattle.sd_pieces.proofs.course_lemmas.Courses.{told-course}
use Rattle.sd_pieces.proofs.course_lemmas.Touched.{course-by}
use Rattle.sd_pieces.proofs.history_lemmas.Follows.{told-end}
use Rattle.sd_graph.specs.ContainerParts.{Containers}
use Rattle.sd_prop.specs.propagation.Accesses.{Access}
use Rattle.sd_safe.specs.pieces.Keeping.{LeavesAlone, HaveKept, AsksNoMore}

-- ---- what is found after a change

nested-found : {A B C : Type 0} (g : A → Option B) (q : B → Option C) (o : Option A) → option_and_then q (option_and_then g o) ≡ option_and_then (λ x. option_and_then q (g x)) o
nested-found g q None = refl
nested-found g q (Some x) = refl

-- what is found of a member is kept by a change of another one, and by one that keeps what is found
found-changed : {A B : Type 0} (q : A → Option B) (i j : ℕ) (f : A → A) → (i ≡ j → (x : A) → q (f x) ≡ q x) → (xs : List A) → option_and_then q (slice_get (changed_at j f xs) i) ≡ option_and_then q (slice_get xs i)
found-changed q i j f h [] = refl
found-changed q zero zero f h (x ∷ xs) = h refl x
found-changed q zero (suc j) f h (x ∷ xs) = refl
found-changed q (suc i) zero f h (x ∷ xs) = refl
found-changed q (suc i) (suc j) f h (x ∷ xs) = found-changed q i j f (λ e. h (ap suc e)) xs

found-with : {B : Type 0} (q : Contents → Option B) (l c m d : ℕ) (f : Contents → Contents) → (l ≡ m → c ≡ d → (k : Contents) → q (f k) ≡ q k) → (s : Memories) →
    option_and_then q (contents_found l c (with_contents m d f s)) ≡ option_and_then q (contents_found l c s)
found-with q l c m d f h s =
    nested-found (λ (memory : Memory). slice_get memory c) q (slice_get (changed_at m (changed_at d f) s) l)
    ∙ found-changed (λ (memory : Memory). option_and_then q (slice_get memory c)) l m (changed_at d f) (λ e memory. found-changed q c d f (λ e' k. h e e' k) memory) s
    ∙ sym (nested-found (λ (memory : Memory). slice_get memory c) q (slice_get s l))

get-other : {A : Type 0} (i j : ℕ) (f : A → A) → i ≢ j → (xs : List A) → slice_get (changed_at j f xs) i ≡ slice_get xs i
get-other i j f n [] = refl
get-other zero zero f n (x ∷ xs) = absurd (n refl)
get-other zero (suc j) f n (x ∷ xs) = refl
get-other (suc i) zero f n (x ∷ xs) = refl
get-other (suc i) (suc j) f n (x ∷ xs) = get-other i j f (λ e. n (ap suc e)) xs

other-element : (e j : ℕ) (f : Width → ℤ → ℤ) → e ≢ j → (k : Contents) → slice_get (elements_of (with_elements (λ width. changed_at j (f width)) k)) e ≡ slice_get (elements_of k) e
other-element e j f n (array width elements) = get-other e j (f width) n elements
other-element e j f n (stream width values) = refl

no-elements : (e : ℕ) (f : Width → List ℤ → List ℤ) (k : Contents) → slice_get (elements_of (with_values f k)) e ≡ slice_get (elements_of k) e
no-elements e f (array width elements) = refl
no-elements e f (stream width values) = refl

no-values : (f : Width → List ℤ → List ℤ) (k : Contents) → values_if (with_elements f k) ≡ values_if k
no-values f (array width elements) = refl
no-values f (stream width values) = refl

element-apply : (r : Reference) (u : Change) → SparesElement r u → (s : Memories) → element_found r (apply u s) ≡ element_found r s
element-apply r nothing h s = refl
element-apply r (write to by v) h s =
    found-with (λ k. slice_get (elements_of k) r.element) r.level r.container to.level to.container _ (λ e e' k. other-element r.element to.element _ (λ e''. h (same_reference r to e e' e'')) k) s
element-apply r (push l c v) h s = found-with (λ k. slice_get (elements_of k) r.element) r.level r.container l c _ (λ e e' k. no-elements r.element _ k) s
element-apply r (take l c j) h s = found-with (λ k. slice_get (elements_of k) r.element) r.level r.container l c _ (λ e e' k. no-elements r.element _ k) s

stream-apply : (l c : ℕ) (u : Change) → SparesStream l c u → (s : Memories) → stream_found l c (apply u s) ≡ stream_found l c s
stream-apply l c nothing h s = refl
stream-apply l c (write to by v) h s = found-with values_if l c to.level to.container _ (λ e e' k. no-values _ k) s
stream-apply l c (push m d v) h s = found-with values_if l c m d _ (λ e e' k. absurd (h e e')) s
stream-apply l c (take m d j) h s = found-with values_if l c m d _ (λ e e' k. absurd (h e e')) s

-- ---- changes of work

-- changes that do not write an element
spares-element : (T : Touch → Type 0) (c e : ℕ) → ((by : Option Resolution) → T (writes (outermost c e) by) → ⊥) → (u : Change) → IsChangeBy T u → SparesElement (outermost c e) u
spares-element T c e none nothing is = tt
spares-element T c e none (write to by v) is = λ same. none by (subst (λ r. T (writes r by)) (sym same) is)
spares-element T c e none (push l d v) is = tt
spares-element T c e none (take l d j) is = tt

-- or leave a stream alone
spares-stream : (T : Touch → Type 0) (c : ℕ) → (T (pushes 0 c) → ⊥) → (T (takes 0 c) → ⊥) → (u : Change) → IsChangeBy T u → SparesStream 0 c u
spares-stream T c none none' nothing is = tt
spares-stream T c none none' (write to by v) is = tt
spares-stream T c none none' (push l d v) is = λ e f. none (subst (λ n. T (pushes n c)) (sym e) (subst (λ n. T (pushes l n)) (sym f) is))
spares-stream T c none none' (take l d j) is = λ e f. none' (subst (λ n. T (takes n c)) (sym e) (subst (λ n. T (takes l n)) (sym f) is))

all-element : (T : Touch → Type 0) (c e : ℕ) → ((by : Option Resolution) → T (writes (outermost c e) by) → ⊥) → (us : List Change) → AllByRecursion (IsChangeBy T) us → (s : Memories) → element_found (outermost c e) (apply_all us s) ≡ element_found (outermost c e) s
all-element T c e none [] each s = refl
all-element T c e none (u ∷ us) each s = all-element T c e none us each.1 (apply u s) ∙ element-apply (outermost c e) u (spares-element T c e none u each.0) s

all-stream : (T : Touch → Type 0) (c : ℕ) → (T (pushes 0 c) → ⊥) → (T (takes 0 c) → ⊥) → (us : List Change) → AllByRecursion (IsChangeBy T) us → (s : Memories) → stream_found 0 c (apply_all us s) ≡ stream_found 0 c s
all-stream T c none none' [] each s = refl
all-stream T c none none' (u ∷ us) each s = all-stream T c none none' us each.1 (apply u s) ∙ stream-apply 0 c u (spares-stream T c none none' u each.0) s

all-width : (l c : ℕ) (us : List Change) (s : Memories) → container_width l c (apply_all us s) ≡ container_width l c s
all-width l c [] s = refl
all-width l c (u ∷ us) s = all-width l c us (apply u s) ∙ width-apply l c u s

-- ---- what is kept

-- work that leaves alone what accesses keep or drain leaves it as it was
pub work-keeps : {P : Type 0} (containers : Containers) (values : List ℤ) (accesses : List Access) (term : Term P) (most turns : ℕ) (memories after : Memories) (left : ℕ) → LeavesAlone containers values accesses (Touches term) →
    big_step term most memories turns ≡ reached after left → HaveKept containers values accesses memories after
work-keeps containers values accesses term most turns memories after left alone big =
    let us = (course term most memories turns).changes in
    let each = (course-by (Touches term) term (λ touch h. h) most memories turns).1 in
    let is : apply_all us memories ≡ after = (told-end (course term most memories turns).end (apply_all us memories) after left (sym (told-course term most memories turns) ∙ big)).1 in
    record {
      elements = λ c e kept. subst (AgreeAt (reads_element (outermost c e)) memories) is (sym (all-element (Touches term) c e (λ by. alone.elements c e by kept) us each memories), sym (all-width 0 c us memories));
      streams = λ c drained. subst (AgreeAt (reads_stream 0 c) memories) is (sym (all-stream (Touches term) c (alone.pushed c drained) (alone.taken c drained) us each memories), sym (all-width 0 c us memories));
      widths = λ c. subst (HaveOneWidth 0 c memories) is (sym (all-width 0 c us memories));
    }

pub kept-same : (containers : Containers) (values : List ℤ) (accesses : List Access) (memories : Memories) → HaveKept containers values accesses memories memories
kept-same containers values accesses memories = record { elements = λ c e kept. (refl, refl); streams = λ c drained. (refl, refl); widths = λ c. refl }

pub kept-further : (containers : Containers) (values : List ℤ) (accesses : List Access) (first second third : Memories) → HaveKept containers values accesses first second → HaveKept containers values accesses second third → HaveKept containers values accesses first third
kept-further containers values accesses first second third one two = record {
  elements = λ c e kept. let a = one.elements c e kept in let b = two.elements c e kept in (a.0 ∙ b.0, a.1 ∙ b.1);
  streams = λ c drained. let a = one.streams c drained in let b = two.streams c drained in (a.0 ∙ b.0, a.1 ∙ b.1);
  widths = λ c. one.widths c ∙ two.widths c;
}

-- what was prepared for a memory is so for one that has kept what it asks for
pub kept-prepared : (containers : Containers) (values : List ℤ) (accesses : List Access) (marking : Marking) (prepared memories after : Memories) → AsksNoMore containers values accesses marking → HaveKept containers values accesses memories after →
    IsPrepared marking prepared memories → IsPrepared marking prepared after
kept-prepared containers values accesses marking prepared memories after asks same p = record {
  kept_so = λ c e is. let a = p.kept_so c e is in let b = same.elements c e (asks.elements c e is) in (a.0 ∙ b.0, a.1 ∙ b.1);
  drained_so = λ c is. let a = p.drained_so c is in let b = same.streams c (asks.streams c is) in (a.0 ∙ b.0, a.1 ∙ b.1);
  gathered_so = λ c e by is. let a = p.gathered_so c e by is in (a.0 ∙ same.widths c, a.1);
  appended_so = λ c is. let a = p.appended_so c is in (a.0 ∙ same.widths c, a.1);
}
