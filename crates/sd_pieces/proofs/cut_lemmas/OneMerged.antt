-- What is merged is one stack of memories.
use Rattle.std.proofs.Common.{◌≡◌, ℕ, zero, suc, ℤ, List, [], ◌∷◌, map, length, drop, Option, Some, None, slice_get, refl, sym, ◌∙◌, ap, arith}
use Rattle.std.specs.Option.{option_and_then}
use Rattle.sd_num.specs.declared.width.Width.{Width}
use Rattle.sd_num.specs.declared.resolution.Resolution.{Resolution}
use Rattle.sd_work.specs.Memory.{Contents, array, stream, Memory, Memories, width_of, elements_of}
use Rattle.sd_pieces.specs.course.Reading.{values_if, element_found, stream_found}
use Rattle.sd_pieces.specs.course.Shape.{array_length, contents_shape, stack_shape}
use Rattle.sd_pieces.specs.cut.Naming.{Naming}
use Rattle.sd_pieces.specs.cut.Merged.{Mark, untouched, kept, gathered, StreamMark, unused, drained, appended, Marking, outermost, IsMerged, AreElementsOfWidth}

-- ---- what is found in a memory

abbrev element_in : (c e : ℕ) → Memory → Option ℤ
element_in c e own = option_and_then (λ k. slice_get (elements_of k) e) (slice_get own c)

abbrev stream_in : (c : ℕ) → Memory → Option (List ℤ)
stream_in c own = option_and_then values_if (slice_get own c)

-- ---- what is not there

absent-member : {A : Type 0} (xs ys : List A) → length xs ≡ length ys → (e : ℕ) → slice_get xs e ≡ None → slice_get ys e ≡ None
absent-member [] [] h e n = refl
absent-member [] (y ∷ ys) h e n = absurd (omega arith)
absent-member (x ∷ xs) [] h e n = refl
absent-member (x ∷ xs) (y ∷ ys) h zero n = cc
absent-member (x ∷ xs) (y ∷ ys) h (suc e) n = absent-member xs ys (omega arith) e n

absent-element : (k j : Contents) → array_length k ≡ array_length j → (e : ℕ) → slice_get (elements_of k) e ≡ None → slice_get (elements_of j) e ≡ None
absent-element (array width xs) (array other ys) h e n = absent-member xs ys (let same : length xs ≡ length ys = cc in same) e n
absent-element (array width xs) (stream other ys) h e n = refl
absent-element (stream width xs) (array other ys) h e n = cc
absent-element (stream width xs) (stream other ys) h e n = refl

absent-values : (k j : Contents) → array_length k ≡ array_length j → values_if k ≡ None → values_if j ≡ None
absent-values (array width xs) (array other ys) h n = refl
absent-values (array width xs) (stream other ys) h n = cc
absent-values (stream width xs) (array other ys) h n = refl
absent-values (stream width xs) (stream other ys) h n = cc

-- what is told of a container of this number is not there in another memory of the shape
absent-in : {B : Type 0} (q : Contents → Option B) → ((k j : Contents) → array_length k ≡ array_length j → q k ≡ None → q j ≡ None) →
    (m n : Memory) → map contents_shape m ≡ map contents_shape n → (c : ℕ) → option_and_then q (slice_get m c) ≡ None → option_and_then q (slice_get n c) ≡ None
absent-in q f [] [] h c e = refl
absent-in q f [] (j ∷ n) h c e = cc
absent-in q f (k ∷ m) [] h c e = refl
absent-in q f (k ∷ m) (j ∷ n) h zero e = f k j (let same : contents_shape k ≡ contents_shape j = cc in ap (λ x. x.1) same) e
absent-in q f (k ∷ m) (j ∷ n) h (suc c) e = absent-in q f m n (let same : map contents_shape m ≡ map contents_shape n = cc in same) c e

absent-element-there : (s t : Memories) → stack_shape s ≡ stack_shape t → (c e : ℕ) → element_found (outermost c e) s ≡ None → element_found (outermost c e) t ≡ None
absent-element-there [] [] h c e n = refl
absent-element-there [] (own ∷ t) h c e n = cc
absent-element-there (own ∷ s) [] h c e n = refl
absent-element-there (own ∷ s) (other ∷ t) h c e n =
    absent-in (λ k. slice_get (elements_of k) e) (λ k j h. absent-element k j h e) own other (let same : map contents_shape own ≡ map contents_shape other = cc in same) c n

absent-stream-there : (s t : Memories) → stack_shape s ≡ stack_shape t → (c : ℕ) → stream_found 0 c s ≡ None → stream_found 0 c t ≡ None
absent-stream-there [] [] h c n = refl
absent-stream-there [] (own ∷ t) h c n = cc
absent-stream-there (own ∷ s) [] h c n = refl
absent-stream-there (own ∷ s) (other ∷ t) h c n = absent-in values_if absent-values own other (let same : map contents_shape own ≡ map contents_shape other = cc in same) c n

-- ---- stacks that have the same everywhere

same-members : {A : Type 0} (xs ys : List A) → ((e : ℕ) → slice_get xs e ≡ slice_get ys e) → xs ≡ ys
same-members [] [] h = refl
same-members [] (y ∷ ys) h = let e : None ≡ Some y = h zero in cc
same-members (x ∷ xs) [] h = let e : Some x ≡ None = h zero in cc
same-members (x ∷ xs) (y ∷ ys) h = let first : Some x ≡ Some y = h zero in let rest = same-members xs ys (λ e. h (suc e)) in cc

same_width : (k j : Contents) → contents_shape k ≡ contents_shape j → width_of k ≡ width_of j
same_width k j h = ap (λ (shape : Width × Option ℕ). shape.0) h

same-contents : (k j : Contents) → contents_shape k ≡ contents_shape j → ((e : ℕ) → slice_get (elements_of k) e ≡ slice_get (elements_of j) e) → values_if k ≡ values_if j → k ≡ j
same-contents (array width xs) (array other ys) h f g = λ i. array (same_width (array width xs) (array other ys) h i) (same-members xs ys f i)
same-contents (array width xs) (stream other ys) h f g = cc
same-contents (stream width xs) (array other ys) h f g = cc
same-contents (stream width xs) (stream other ys) h f g = let values : xs ≡ ys = cc in λ i. stream (same_width (stream width xs) (stream other ys) h i) (values i)

same-memory : (m n : Memory) → map contents_shape m ≡ map contents_shape n → ((c e : ℕ) → element_in c e m ≡ element_in c e n) → ((c : ℕ) → stream_in c m ≡ stream_in c n) → m ≡ n
same-memory [] [] h f g = refl
same-memory [] (j ∷ n) h f g = cc
same-memory (k ∷ m) [] h f g = cc
same-memory (k ∷ m) (j ∷ n) h f g =
    let shapes : contents_shape k ≡ contents_shape j = cc in
    let others : map contents_shape m ≡ map contents_shape n = cc in
    let first = same-contents k j shapes (f zero) (g zero) in
    let rest = same-memory m n others (λ c. f (suc c)) (λ c. g (suc c)) in
    λ i. first i ∷ rest i

same-stack : (s t : Memories) → stack_shape s ≡ stack_shape t → drop 1 s ≡ drop 1 t → ((c e : ℕ) → element_found (outermost c e) s ≡ element_found (outermost c e) t) →
    ((c : ℕ) → stream_found 0 c s ≡ stream_found 0 c t) → s ≡ t
same-stack [] [] h d f g = refl
same-stack [] (own ∷ t) h d f g = cc
same-stack (own ∷ s) [] h d f g = cc
same-stack (own ∷ s) (other ∷ t) h d f g =
    let shapes : map contents_shape own ≡ map contents_shape other = cc in
    let first = same-memory own other shapes f g in
    λ i. first i ∷ d i

-- ---- what is merged

pub one-merged : (naming : Naming) (marking : Marking) (left before after others : Memories) → AreElementsOfWidth before → IsMerged naming marking left before after → IsMerged naming marking left before others → after ≡ others
one-merged naming marking left before after others fit a b =
    same-stack after others (a.shape_so ∙ sym b.shape_so) (a.deeper_so ∙ sym b.deeper_so)
    (λ c e. by_mark c e (marking.element c e) refl (naming c e) refl) (λ c. by_stream c (marking.stream c) refl)
  where
    by_old : (c e number : ℕ) (by : Resolution) → marking.element c e ≡ gathered by → naming c e ≡ Some number → (old : Option ℤ) → element_found (outermost c e) before ≡ old →
        element_found (outermost c e) after ≡ element_found (outermost c e) others
    by_old c e number by m n None o = absent-element-there before after (sym a.shape_so) c e o ∙ sym (absent-element-there before others (sym b.shape_so) c e o)
    by_old c e number by m n (Some old) o = a.gathered_so c e number by old m n (fit c e old o) o ∙ sym (b.gathered_so c e number by old m n (fit c e old o) o)

    by_mark : (c e : ℕ) (mark : Mark) → marking.element c e ≡ mark → (number : Option ℕ) → naming c e ≡ number → element_found (outermost c e) after ≡ element_found (outermost c e) others
    by_mark c e mark m None n = a.unnumbered_so c e n ∙ sym (b.unnumbered_so c e n)
    by_mark c e untouched m (Some number) n = a.untouched_so c e m ∙ sym (b.untouched_so c e m)
    by_mark c e kept m (Some number) n = a.kept_so c e number m n ∙ sym (b.kept_so c e number m n)
    by_mark c e (gathered by) m (Some number) n = by_old c e number by m n (element_found (outermost c e) before) refl

    by_values : (c : ℕ) → marking.stream c ≡ appended → (values : Option (List ℤ)) → stream_found 0 c before ≡ values → stream_found 0 c after ≡ stream_found 0 c others
    by_values c m None v = absent-stream-there before after (sym a.shape_so) c v ∙ sym (absent-stream-there before others (sym b.shape_so) c v)
    by_values c m (Some values) v = a.appended_so c values m v ∙ sym (b.appended_so c values m v)

    by_stream : (c : ℕ) (mark : StreamMark) → marking.stream c ≡ mark → stream_found 0 c after ≡ stream_found 0 c others
    by_stream c unused m = a.unused_so c m ∙ sym (b.unused_so c m)
    by_stream c drained m = a.drained_so c m ∙ sym (b.drained_so c m)
    by_stream c appended m = by_values c m (stream_found 0 c before) refl
