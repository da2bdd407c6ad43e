-- Memories by other numbers stay so by the same changes, and the same is seen in them.
use Rattle.std.proofs.Common.{◌≡◌, ◌⊎◌, inl, inr, ℕ, zero, suc, ℤ, pos, List, [], ◌∷◌, drop, Option, Some, None, slice_get, refl, sym, ◌∙◌, ap, subst}
use Rattle.std.specs.Bool.{⊤}
use Rattle.std.specs.Option.{option_and_then}
use Rattle.sd_num.specs.declared.width.Width.{Width}
use Rattle.sd_num.specs.declared.resolution.Resolution.{Resolution}
use Rattle.sd_work.specs.Memory.{Contents, array, stream, Memory, Memories, elements_of, look, waiting}
use Rattle.sd_work.specs.Change.{write, push, take, written, changed_at, without, with_elements, with_values, appended, with_contents, apply}
use Rattle.sd_pieces.specs.course.Reading.{contents_found, values_if}
use Rattle.sd_pieces.proofs.course_lemmas.Readings.{at, if_found, or_default, found-changed_at, container-changed, look-found, waiting-found}
use Rattle.sd_pieces.specs.cut.Naming.{Naming, IsOneToOne, names_at, AreContentsNamed, AreFoundNamed, AreMemoriesNamed}

abbrev number_or : ℕ → Option ℕ → ℕ
number_or d None = d
number_or d (Some k) = k

some-same : (a b : ℕ) → Some a ≡ Some b → a ≡ b
some-same a b e = ap (number_or a) e

-- ---- numbers

one-names : (naming : Naming) → IsOneToOne naming → (d l c e f k : ℕ) → names_at naming d l c e ≡ Some k → names_at naming d l c f ≡ Some k → e ≡ f
one-names naming h zero zero c e f k p q = h c e f k p q
one-names naming h zero (suc l) c e f k p q = some-same e k p ∙ sym (some-same f k q)
one-names naming h (suc d) zero c e f k p q = some-same e k p ∙ sym (some-same f k q)
one-names naming h (suc d) (suc l) c e f k p q = one-names naming h d l c e f k p q

-- ---- one member changed

abbrev pred : ℕ → ℕ
pred zero = zero
pred (suc n) = n

abbrev IsSuc : ℕ → Type 0
IsSuc zero = ⊥
IsSuc (suc n) = ⊤

pub same_or_two : (i j : ℕ) → (i ≡ j) ⊎ (i ≡ j → ⊥)
same_or_two zero zero = inl refl
same_or_two zero (suc j) = inr (λ e. subst IsSuc (sym e) tt)
same_or_two (suc i) zero = inr (λ e. subst IsSuc e tt)
same_or_two (suc i) (suc j) = suc_too (same_or_two i j)
  where
    suc_too : (i ≡ j) ⊎ (i ≡ j → ⊥) → (suc i ≡ suc j) ⊎ (suc i ≡ suc j → ⊥)
    suc_too (inl e) = inl (ap suc e)
    suc_too (inr n) = inr (λ e. n (ap pred e))

pub at-same : {A : Type 0} (i j : ℕ) → i ≡ j → (f : A → A) (x : A) → at i j f x ≡ f x
at-same zero zero e f x = refl
at-same zero (suc j) e f x = elim (subst IsSuc (sym e) tt) [ ]
at-same (suc i) zero e f x = elim (subst IsSuc e tt) [ ]
at-same (suc i) (suc j) e f x = at-same i j (ap pred e) f x

pub at-other : {A : Type 0} (i j : ℕ) → (i ≡ j → ⊥) → (f : A → A) (x : A) → at i j f x ≡ x
at-other zero zero n f x = elim (n refl) [ ]
at-other zero (suc j) n f x = refl
at-other (suc i) zero n f x = refl
at-other (suc i) (suc j) n f x = at-other i j (λ e. n (ap suc e)) f x

at-both : (i j : ℕ) (f g : Contents → Contents) (R : Contents → Contents → Type 0) → (i ≡ j → (a b : Contents) → R a b → R (f a) (g b)) → (a b : Contents) → R a b → R (at i j f a) (at i j g b)
at-both zero zero f g R h a b r = h refl a b r
at-both zero (suc j) f g R h a b r = r
at-both (suc i) zero f g R h a b r = r
at-both (suc i) (suc j) f g R h a b r = at-both i j f g R (λ e. h (ap suc e)) a b r

found-both : (names : ℕ → Option ℕ) (f g : Contents → Contents) → ((a b : Contents) → AreContentsNamed names a b → AreContentsNamed names (f a) (g b)) →
    (o p : Option Contents) → AreFoundNamed names o p → AreFoundNamed names (if_found f o) (if_found g p)
found-both names f g h None None r = r
found-both names f g h None (Some b) r = r
found-both names f g h (Some a) None r = r
found-both names f g h (Some a) (Some b) r = h a b r

-- one container changed in both stacks
contents-named : (naming : Naming) (d m k : ℕ) (f g : Contents → Contents) → ((a b : Contents) → AreContentsNamed (names_at naming d m k) a b → AreContentsNamed (names_at naming d m k) (f a) (g b)) →
    (s t : Memories) → AreMemoriesNamed naming d s t → AreMemoriesNamed naming d (with_contents m k f s) (with_contents m k g t)
contents-named naming d m k f g h s t r l c =
    subst (λ o. AreFoundNamed (names_at naming d l c) o (contents_found l c (with_contents m k g t))) (sym (container-changed l c m k f s))
    (subst (λ p. AreFoundNamed (names_at naming d l c) (if_found (at m l (at k c f)) (contents_found l c s)) p) (sym (container-changed l c m k g t))
    (found-both (names_at naming d l c) (at m l (at k c f)) (at m l (at k c g))
    (at-both m l (at k c f) (at k c g) (AreContentsNamed (names_at naming d l c)) (λ e. at-both k c f g (AreContentsNamed (names_at naming d l c)) (λ q.
    subst (λ c. (a b : Contents) → AreContentsNamed (names_at naming d l c) a b → AreContentsNamed (names_at naming d l c) (f a) (g b)) q
    (subst (λ l. (a b : Contents) → AreContentsNamed (names_at naming d l k) a b → AreContentsNamed (names_at naming d l k) (f a) (g b)) e h))))
    (contents_found l c s) (contents_found l c t) (r l c)))

-- an element changed in both
elements-named : (names : ℕ → Option ℕ) → ((e f k : ℕ) → names e ≡ Some k → names f ≡ Some k → e ≡ f) → (e k : ℕ) → names e ≡ Some k → (change : Width → ℤ → ℤ) →
    (a b : Contents) → AreContentsNamed names a b → AreContentsNamed names (with_elements (λ width. changed_at e (change width)) a) (with_elements (λ width. changed_at k (change width)) b)
elements-named names one e k p change (array width xs) (array other ys) r = (r.0, λ f j q. found-changed_at e f (change width) xs ∙ on f j q (same_or_two e f) ∙ sym (found-changed_at k j (change other) ys))
  where
    changed : {A : Type 0} (g h : A → A) (o o' : Option A) → ((x : A) → g x ≡ h x) → o ≡ o' → if_found g o ≡ if_found h o'
    changed g h None o' k e = ap (if_found h) e
    changed g h (Some x) o' k e = ap Some (k x) ∙ ap (if_found h) e

    on : (f j : ℕ) → names f ≡ Some j → (e ≡ f) ⊎ (e ≡ f → ⊥) → if_found (at e f (change width)) (slice_get xs f) ≡ if_found (at k j (change other)) (slice_get ys j)
    on f j q (inl same) =
        changed (at e f (change width)) (at k j (change other)) _ _
        (λ x. at-same e f same (change width) x ∙ ap (λ w. change w x) r.0 ∙ sym (at-same k j (some-same k j (sym p ∙ ap names same ∙ q)) (change other) x)) (r.1 f j q)
    on f j q (inr two) =
        changed (at e f (change width)) (at k j (change other)) _ _
        (λ x. at-other e f two (change width) x ∙ sym (at-other k j (λ same. two (one e f k p (q ∙ ap Some (sym same)))) (change other) x)) (r.1 f j q)
elements-named names one e k p change (array width xs) (stream other ys) r = r
elements-named names one e k p change (stream width xs) (array other ys) r = r
elements-named names one e k p change (stream width xs) (stream other ys) r = r

values-named : (names : ℕ → Option ℕ) (change : Width → List ℤ → List ℤ) (a b : Contents) → AreContentsNamed names a b → AreContentsNamed names (with_values change a) (with_values change b)
values-named names change (array width xs) (array other ys) r = r
values-named names change (array width xs) (stream other ys) r = r
values-named names change (stream width xs) (array other ys) r = r
values-named names change (stream width xs) (stream other ys) r = (r.0, λ i. change (r.0 i) (r.1 i))

-- ---- changes

pub write-named : (naming : Naming) → IsOneToOne naming → (d l c e k : ℕ) (by : Option Resolution) (v : ℤ) (s t : Memories) → names_at naming d l c e ≡ Some k → AreMemoriesNamed naming d s t →
    AreMemoriesNamed naming d (apply (write (record { level = l; container = c; element = e }) by v) s) (apply (write (record { level = l; container = c; element = k }) by v) t)
write-named naming one d l c e k by v s t p r =
    contents-named naming d l c _ _ (elements-named (names_at naming d l c) (one-names naming one d l c) e k p (λ width. written width by v)) s t r

pub push-named : (naming : Naming) (d l c : ℕ) (v : ℤ) (s t : Memories) → AreMemoriesNamed naming d s t → AreMemoriesNamed naming d (apply (push l c v) s) (apply (push l c v) t)
push-named naming d l c v s t r = contents-named naming d l c (with_values (appended v)) (with_values (appended v)) (values-named (names_at naming d l c) (appended v)) s t r

pub take-named : (naming : Naming) (d l c p : ℕ) (s t : Memories) → AreMemoriesNamed naming d s t → AreMemoriesNamed naming d (apply (take l c p) s) (apply (take l c p) t)
take-named naming d l c p s t r =
    contents-named naming d l c (with_values (λ width. without p)) (with_values (λ width. without p)) (values-named (names_at naming d l c) (λ width. without p)) s t r

-- ---- what is seen

pub element-named : (names : ℕ → Option ℕ) (e k : ℕ) → names e ≡ Some k → (o q : Option Contents) → AreFoundNamed names o q →
    option_and_then (λ a. slice_get (elements_of a) e) o ≡ option_and_then (λ a. slice_get (elements_of a) k) q
element-named names e k p None None h = refl
element-named names e k p None (Some b) h = elim h [ ]
element-named names e k p (Some a) None h = elim h [ ]
element-named names e k p (Some (array width xs)) (Some (array other ys)) h = h.1 e k p
element-named names e k p (Some (array width xs)) (Some (stream other ys)) h = elim h [ ]
element-named names e k p (Some (stream width xs)) (Some (array other ys)) h = elim h [ ]
element-named names e k p (Some (stream width xs)) (Some (stream other ys)) h = refl

pub stream-named : (names : ℕ → Option ℕ) → (o q : Option Contents) → AreFoundNamed names o q → option_and_then values_if o ≡ option_and_then values_if q
stream-named names None None h = refl
stream-named names None (Some b) h = elim h [ ]
stream-named names (Some a) None h = elim h [ ]
stream-named names (Some (array width xs)) (Some (array other ys)) h = refl
stream-named names (Some (array width xs)) (Some (stream other ys)) h = elim h [ ]
stream-named names (Some (stream width xs)) (Some (array other ys)) h = elim h [ ]
stream-named names (Some (stream width xs)) (Some (stream other ys)) h = ap Some h.1

pub look-named : (naming : Naming) (d l c e k : ℕ) (s t : Memories) → names_at naming d l c e ≡ Some k → AreMemoriesNamed naming d s t →
    look (record { level = l; container = c; element = e }) s ≡ look (record { level = l; container = c; element = k }) t
look-named naming d l c e k s t p r =
    look-found (record { level = l; container = c; element = e }) s
    ∙ ap (or_default (pos 0)) (element-named (names_at naming d l c) e k p (contents_found l c s) (contents_found l c t) (r l c))
    ∙ sym (look-found (record { level = l; container = c; element = k }) t)

pub waiting-named : (naming : Naming) (d l c : ℕ) (s t : Memories) → AreMemoriesNamed naming d s t → waiting l c s ≡ waiting l c t
waiting-named naming d l c s t r =
    waiting-found l c s ∙ ap (or_default []) (stream-named (names_at naming d l c) (contents_found l c s) (contents_found l c t) (r l c)) ∙ sym (waiting-found l c t)

-- ---- owners

itself-named : (o : Option Contents) → AreFoundNamed Some o o
itself-named None = tt
itself-named (Some (array width xs)) = (refl, λ e k p. ap (slice_get xs) (some-same e k p))
itself-named (Some (stream width xs)) = (refl, refl)

pub inside-named : (naming : Naming) (d : ℕ) (own : Memory) (s t : Memories) → AreMemoriesNamed naming d s t → AreMemoriesNamed naming (suc d) (own ∷ s) (own ∷ t)
inside-named naming d own s t r zero c = itself-named (slice_get own c)
inside-named naming d own s t r (suc l) c = r l c

dropped : (l c : ℕ) (s : Memories) → contents_found l c (drop 1 s) ≡ contents_found (suc l) c s
dropped l c [] = refl
dropped l c (own ∷ s) = refl

pub outside-named : (naming : Naming) (d : ℕ) (s t : Memories) → AreMemoriesNamed naming (suc d) s t → AreMemoriesNamed naming d (drop 1 s) (drop 1 t)
outside-named naming d s t r l c =
    subst (λ o. AreFoundNamed (names_at naming d l c) o (contents_found l c (drop 1 t))) (sym (dropped l c s))
    (subst (λ p. AreFoundNamed (names_at naming d l c) (contents_found (suc l) c s) p) (sym (dropped l c t)) (r (suc l) c))
