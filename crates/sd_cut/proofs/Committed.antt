-- What is committed, by each element and each stream.
use Rattle.std.proofs.Common.{◌≡◌, ℕ, zero, suc, ◌+◌, ◌<◌, ℤ, List, [], ◌∷◌, ◌++◌, map, drop, length, replicate, Option, Some, None, slice_get, slice_index_or, refl, sym, ◌∙◌, ap, subst, arith}
use Rattle.std.proofs.lemmas.List.{append_assoc}
use Rattle.sd_num.specs.Width.{wrapped_to}
use Rattle.sd_num.specs.declared.width.Width.{Width}
use Rattle.sd_work.specs.Memory.{Memories, elements_of, waiting}
use Rattle.sd_work.specs.Change.{Change, push, take, without}
use Rattle.sd_work.proofs.Changes.{width-apply}
use Rattle.sd_pieces.specs.course.Reading.{element_found, stream_found, container_width, apply_all}
use Rattle.sd_pieces.specs.cut.Merged.{outermost}
use Rattle.sd_pieces.proofs.course_lemmas.Readings.{if_found, unchanged, same_found}
use Rattle.sd_pieces.proofs.cut_lemmas.NamedMemories.{at-same, at-other}
use Rattle.sd_pieces.proofs.cut_lemmas.Merging.{effects_on, element-after, at-nothing, stream_effects, stream-after}
use Rattle.sd_mem.specs.mem.Shaped.{Shaped, alone, contents_at, width_at}
use Rattle.sd_cut.specs.declared.streams.CutStream.{CutStream}
use Rattle.sd_cut.specs.Elements.{all_changed, all_effects, AreFound}
use Rattle.sd_cut.specs.declared.elements.CutElement.{CutElement}
use Rattle.sd_cut.specs.Streams.{pushed_of, taken_of, all_pushes, all_takes, stream_becomes}
use Rattle.sd_cut.specs.Using.{committed, stream_at, pushed_to}
use Rattle.sd_cut.specs.Overlaid.{Overlaid}
use Rattle.sd_cut.proofs.Performing.{all_changed-append, alone-changed}
use Rattle.sd_cut.proofs.Merging.{effects-append, element-at, streams-stay}

-- ---- pushes and takes spare elements

pushes-spare : (w : Width) (c e d : ℕ) (vs : List ℤ) (x : ℤ) → effects_on w 0 c e (map (push 0 d) vs) x ≡ x
pushes-spare w c e d [] x = refl
pushes-spare w c e d (v ∷ vs) x = ap (effects_on w 0 c e (map (push 0 d) vs)) (at-nothing d c x) ∙ pushes-spare w c e d vs x

takes-spare : (w : Width) (c e d n : ℕ) (x : ℤ) → effects_on w 0 c e (replicate n (take 0 d 0)) x ≡ x
takes-spare w c e d zero x = refl
takes-spare w c e d (suc n) x = ap (effects_on w 0 c e (replicate n (take 0 d 0))) (at-nothing d c x) ∙ takes-spare w c e d n x

all-pushes-spare : (w : Width) (c e d : ℕ) (left : Shaped) (streams : List (Option CutStream)) (x : ℤ) → effects_on w 0 c e (all_pushes d left streams) x ≡ x
all-pushes-spare w c e d left [] x = refl
all-pushes-spare w c e d left (s ∷ streams) x =
    effects-append w c e (map (push 0 d) (pushed_of s (waiting 0 d (alone left)))) (all_pushes (suc d) left streams) x
    ∙ ap (effects_on w 0 c e (all_pushes (suc d) left streams)) (pushes-spare w c e d (pushed_of s (waiting 0 d (alone left))) x)
    ∙ all-pushes-spare w c e (suc d) left streams x

all-takes-spare : (w : Width) (c e d : ℕ) (streams : List (Option CutStream)) (x : ℤ) → effects_on w 0 c e (all_takes d streams) x ≡ x
all-takes-spare w c e d [] x = refl
all-takes-spare w c e d (s ∷ streams) x =
    effects-append w c e (replicate (taken_of s) (take 0 d 0)) (all_takes (suc d) streams) x
    ∙ ap (effects_on w 0 c e (all_takes (suc d) streams)) (takes-spare w c e d (taken_of s) x)
    ∙ all-takes-spare w c e (suc d) streams x

-- a memory in which the streams' part is done
abbrev pub streamed : Overlaid → Shaped → Shaped
streamed cut memory = all_changed (all_pushes 0 cut.left cut.streams ++ all_takes 0 cut.streams) memory

pub committed-is : (cut : Overlaid) (memory : Shaped) → committed cut memory ≡ all_changed (all_effects 0 cut.left cut.arrays) (streamed cut memory)
committed-is cut memory = all_changed-append (all_pushes 0 cut.left cut.streams ++ all_takes 0 cut.streams) (all_effects 0 cut.left cut.arrays) memory

pub streamed-element : (cut : Overlaid) (memory : Shaped) (c e : ℕ) → element_found (outermost c e) (alone (streamed cut memory)) ≡ element_found (outermost c e) (alone memory)
streamed-element cut memory c e =
    let pushes = all_pushes 0 cut.left cut.streams in
    let takes = all_takes 0 cut.streams in
    let w = width_at memory c in
    ap (element_found (outermost c e)) (alone-changed (pushes ++ takes) memory)
    ∙ element-after 0 c e (pushes ++ takes) (alone memory)
    ∙ sym (unchanged (effects_on w 0 c e (pushes ++ takes))
    (λ x. effects-append w c e pushes takes x ∙ ap (effects_on w 0 c e takes) (all-pushes-spare w c e 0 cut.left cut.streams x) ∙ all-takes-spare w c e 0 cut.streams x)
    (element_found (outermost c e) (alone memory)))

-- ---- widths stay

width-after : (changes : List Change) (c : ℕ) (s : Memories) → container_width 0 c (apply_all changes s) ≡ container_width 0 c s
width-after [] c s = refl
width-after (change ∷ changes) c s = width-after changes c _ ∙ width-apply 0 c change s

pub width-changed : (changes : List Change) (c : ℕ) (memory : Shaped) → width_at (all_changed changes memory) c ≡ width_at memory c
width-changed changes c memory = ap (container_width 0 c) (alone-changed changes memory) ∙ width-after changes c (alone memory)

-- ---- elements are found where they were

same-members : {A : Type 0} (xs ys : List A) → ((e : ℕ) → slice_get xs e ≡ slice_get ys e) → xs ≡ ys
same-members [] [] h = refl
same-members [] (y ∷ ys) h = let e : None ≡ Some y = h zero in cc
same-members (x ∷ xs) [] h = let e : Some x ≡ None = h zero in cc
same-members (x ∷ xs) (y ∷ ys) h = let first : Some x ≡ Some y = h zero in let rest = same-members xs ys (λ e. h (suc e)) in cc

streamed-elements : (cut : Overlaid) (memory : Shaped) (c : ℕ) → elements_of (contents_at (streamed cut memory) c) ≡ elements_of (contents_at memory c)
streamed-elements cut memory c = same-members _ _ (λ e. sym (element-at (streamed cut memory) c e) ∙ streamed-element cut memory c e ∙ element-at memory c e)

pub streamed-found : (cut : Overlaid) (arrays : List (List CutElement)) (left memory : Shaped) → AreFound arrays left memory → AreFound arrays left (streamed cut memory)
streamed-found cut arrays left memory found c k one is =
    let f = found c k one is in (
      subst (λ xs. one.place < length xs) (sym (streamed-elements cut memory c)) f.0,
      f.1,
      f.2 ∙ sym (width-changed (all_pushes 0 cut.left cut.streams ++ all_takes 0 cut.streams) c memory),
    )

-- ---- streams

both-append : (w : Width) (c : ℕ) (xs ys : List Change) (vs : List ℤ) → stream_effects w 0 c (xs ++ ys) vs ≡ stream_effects w 0 c ys (stream_effects w 0 c xs vs)
both-append w c [] ys vs = refl
both-append w c (change ∷ xs) ys vs = both-append w c xs ys _

append_nil : {A : Type 0} (xs : List A) → xs ++ [] ≡ xs
append_nil [] = refl
append_nil (x ∷ xs) = ap (λ l. x ∷ l) (append_nil xs)

-- pushes to another stream, and to this one
pushes-other : (w : Width) (c d : ℕ) (vs xs : List ℤ) → (d ≡ c → ⊥) → stream_effects w 0 c (map (push 0 d) vs) xs ≡ xs
pushes-other w c d [] xs n = refl
pushes-other w c d (v ∷ vs) xs n = ap (stream_effects w 0 c (map (push 0 d) vs)) (at-other d c n _ xs) ∙ pushes-other w c d vs xs n

pushes-own : (w : Width) (c d : ℕ) (vs xs : List ℤ) → d ≡ c → stream_effects w 0 c (map (push 0 d) vs) xs ≡ xs ++ map (wrapped_to w) vs
pushes-own w c d [] xs e = sym (append_nil xs)
pushes-own w c d (v ∷ vs) xs e =
    ap (stream_effects w 0 c (map (push 0 d) vs)) (at-same d c e _ xs)
    ∙ pushes-own w c d vs (xs ++ wrapped_to w v ∷ []) e
    ∙ append_assoc xs (wrapped_to w v ∷ []) (map (wrapped_to w) vs)

-- takes
takes-other : (w : Width) (c d n : ℕ) (xs : List ℤ) → (d ≡ c → ⊥) → stream_effects w 0 c (replicate n (take 0 d 0)) xs ≡ xs
takes-other w c d zero xs e = refl
takes-other w c d (suc n) xs e = ap (stream_effects w 0 c (replicate n (take 0 d 0))) (at-other d c e _ xs) ∙ takes-other w c d n xs e

takes-own : (w : Width) (c d n : ℕ) (xs : List ℤ) → d ≡ c → stream_effects w 0 c (replicate n (take 0 d 0)) xs ≡ drop n xs
takes-own w c d zero xs e = refl
takes-own w c d (suc n) xs e = ap (stream_effects w 0 c (replicate n (take 0 d 0))) (at-same d c e _ xs) ∙ takes-own w c d n (without 0 xs) e ∙ one xs
  where
    none : List ℤ
    none = []

    nothing : (n : ℕ) → drop n none ≡ none
    nothing zero = refl
    nothing (suc n) = refl

    one : (xs : List ℤ) → drop n (without 0 xs) ≡ drop (suc n) xs
    one [] = nothing n
    one (x ∷ xs) = refl

-- of all streams
later-pushes : (w : Width) (c d : ℕ) (left : Shaped) (streams : List (Option CutStream)) (xs : List ℤ) → c < d → stream_effects w 0 c (all_pushes d left streams) xs ≡ xs
later-pushes w c d left [] xs less = refl
later-pushes w c d left (s ∷ streams) xs less =
    both-append w c (map (push 0 d) (pushed_of s (waiting 0 d (alone left)))) (all_pushes (suc d) left streams) xs
    ∙ ap (stream_effects w 0 c (all_pushes (suc d) left streams)) (pushes-other w c d (pushed_of s (waiting 0 d (alone left))) xs (λ e. absurd (omega (arith, less, e))))
    ∙ later-pushes w c (suc d) left streams xs (omega (arith, less))

own-pushes : (w : Width) (c d m : ℕ) (left : Shaped) (streams : List (Option CutStream)) (xs : List ℤ) → d + m ≡ c →
    stream_effects w 0 c (all_pushes d left streams) xs ≡ xs ++ map (wrapped_to w) (pushed_of (slice_index_or streams m None) (waiting 0 c (alone left)))
own-pushes w c d m left [] xs h = sym (append_nil xs)
own-pushes w c d zero left (s ∷ streams) xs h =
    let here : d ≡ c = omega (arith, h) in
    both-append w c (map (push 0 d) (pushed_of s (waiting 0 d (alone left)))) (all_pushes (suc d) left streams) xs
    ∙ later-pushes w c (suc d) left streams _ (omega (arith, h))
    ∙ pushes-own w c d (pushed_of s (waiting 0 d (alone left))) xs here
    ∙ ap (λ k. xs ++ map (wrapped_to w) (pushed_of s (waiting 0 k (alone left)))) here
own-pushes w c d (suc m) left (s ∷ streams) xs h =
    both-append w c (map (push 0 d) (pushed_of s (waiting 0 d (alone left)))) (all_pushes (suc d) left streams) xs
    ∙ ap (stream_effects w 0 c (all_pushes (suc d) left streams)) (pushes-other w c d (pushed_of s (waiting 0 d (alone left))) xs (λ e. absurd (omega (arith, h, e))))
    ∙ own-pushes w c (suc d) m left streams xs (omega (arith, h))

later-takes : (w : Width) (c d : ℕ) (streams : List (Option CutStream)) (xs : List ℤ) → c < d → stream_effects w 0 c (all_takes d streams) xs ≡ xs
later-takes w c d [] xs less = refl
later-takes w c d (s ∷ streams) xs less =
    both-append w c (replicate (taken_of s) (take 0 d 0)) (all_takes (suc d) streams) xs
    ∙ ap (stream_effects w 0 c (all_takes (suc d) streams)) (takes-other w c d (taken_of s) xs (λ e. absurd (omega (arith, less, e))))
    ∙ later-takes w c (suc d) streams xs (omega (arith, less))

own-takes : (w : Width) (c d m : ℕ) (streams : List (Option CutStream)) (xs : List ℤ) → d + m ≡ c → stream_effects w 0 c (all_takes d streams) xs ≡ drop (taken_of (slice_index_or streams m None)) xs
own-takes w c d m [] xs h = refl
own-takes w c d zero (s ∷ streams) xs h =
    let here : d ≡ c = omega (arith, h) in
    both-append w c (replicate (taken_of s) (take 0 d 0)) (all_takes (suc d) streams) xs
    ∙ later-takes w c (suc d) streams _ (omega (arith, h))
    ∙ takes-own w c d (taken_of s) xs here
own-takes w c d (suc m) (s ∷ streams) xs h =
    both-append w c (replicate (taken_of s) (take 0 d 0)) (all_takes (suc d) streams) xs
    ∙ ap (stream_effects w 0 c (all_takes (suc d) streams)) (takes-other w c d (taken_of s) xs (λ e. absurd (omega (arith, h, e))))
    ∙ own-takes w c (suc d) m streams xs (omega (arith, h))

pub committed-stream : (cut : Overlaid) (memory : Shaped) (c : ℕ) →
    stream_found 0 c (alone (committed cut memory)) ≡ if_found (stream_becomes (width_at memory c) (stream_at cut c) (pushed_to cut c)) (stream_found 0 c (alone memory))
committed-stream cut memory c =
    let pushes = all_pushes 0 cut.left cut.streams in
    let takes = all_takes 0 cut.streams in
    let w = width_at memory c in
    let here : 0 + c ≡ c = omega arith in
    ap (λ (m : Shaped). stream_found 0 c (alone m)) (committed-is cut memory)
    ∙ streams-stay cut.left (streamed cut memory) cut.arrays c
    ∙ ap (stream_found 0 c) (alone-changed (pushes ++ takes) memory)
    ∙ stream-after 0 c (pushes ++ takes) (alone memory)
    ∙ same_found (stream_effects w 0 c (pushes ++ takes)) (stream_becomes w (stream_at cut c) (pushed_to cut c))
    (λ xs. both-append w c pushes takes xs ∙ ap (stream_effects w 0 c takes) (own-pushes w c 0 c cut.left cut.streams xs here) ∙ own-takes w c 0 c cut.streams _ here)
    (stream_found 0 c (alone memory))
