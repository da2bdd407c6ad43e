-- What is committed of a cut to one stream of which a value was pushed, or from which one was taken.
use Rattle.std.proofs.Common.{◌≡◌, ◌⊎◌, inl, inr, ℕ, zero, suc, ◌+◌, ℤ, pos, List, [], ◌∷◌, ◌++◌, map, Option, Some, None, option_map, slice_index_or, refl, sym, ◌∙◌, ap, subst, arith}
use Rattle.sd_num.specs.Width.{wrapped_to}
use Rattle.sd_num.specs.declared.width.Width.{Width}
use Rattle.sd_work.specs.Memory.{look, waiting}
use Rattle.sd_work.specs.Change.{Change, push, take, changed_at, appended, without}
use Rattle.sd_pieces.specs.course.Reading.{element_found, stream_found}
use Rattle.sd_pieces.specs.cut.Naming.{Naming}
use Rattle.sd_pieces.specs.cut.Merged.{outermost, AreElementsOfWidth}
use Rattle.sd_pieces.proofs.course_lemmas.Readings.{if_found, unchanged, or_default, effect_on, stream_effect, stream-changed, look-found, waiting-found}
use Rattle.sd_pieces.proofs.cut_lemmas.NamedMemories.{same_or_two, at-same, at-other}
use Rattle.sd_pieces.proofs.cut_lemmas.Merging.{at-nothing}
use Rattle.sd_mem.specs.mem.Shaped.{Shaped, alone, changed, element, width_at}
use Rattle.sd_cut.specs.declared.streams.CutStream.{CutStream}
use Rattle.sd_cut.specs.declared.streams.StreamUse.TheVariants.{Drained}
use Rattle.sd_cut.specs.Fits.{Fits, AreValuesOfWidth}
use Rattle.sd_cut.specs.Streams.{next_cut, stream_taken, stream_appended, appended_use, stream_becomes, stream_seen}
use Rattle.sd_cut.specs.Using.{stream_at, pushed_to, values_seen, seen_of, next_at, left_taken, pushed_in, taken_in, effects, committed, Agrees}
use Rattle.sd_cut.specs.Overlaid.{Overlaid}
use Rattle.sd_cut.proofs.Merging.{marked_by}
use Rattle.sd_cut.proofs.Merged.{drained-is, stream-there}
use Rattle.sd_cut.proofs.Committed.{width-changed, committed-stream}
use Rattle.sd_overlay.specs.Used.{IsUsedSo}
use Rattle.sd_overlay.proofs.StreamUses.{seen-becomes, pushed-becomes, pushed_left, taken-becomes}
use Rattle.sd_overlay.proofs.Uses.{same-memory, shapes-stay, shape-stays, elements-stay, one-change, element-written, cut-or-not, IsCutOrNot, element-committed, element-uncut}

-- ---- members of changed lists

list-there : {A : Type 0} (d : A) (i : ℕ) (f : A → A) (xs : List A) → f d ≡ d → slice_index_or (changed_at i f xs) i d ≡ f (slice_index_or xs i d)
list-there d i f [] none = sym none
list-there d zero f (x ∷ xs) none = refl
list-there d (suc i) f (x ∷ xs) none = list-there d i f xs none

list-elsewhere : {A : Type 0} (d : A) (i j : ℕ) (f : A → A) (xs : List A) → (i ≡ j → ⊥) → slice_index_or (changed_at i f xs) j d ≡ slice_index_or xs j d
list-elsewhere d i j f [] other = refl
list-elsewhere d zero zero f (x ∷ xs) other = absurd (other refl)
list-elsewhere d zero (suc j) f (x ∷ xs) other = refl
list-elsewhere d (suc i) zero f (x ∷ xs) other = refl
list-elsewhere d (suc i) (suc j) f (x ∷ xs) other = list-elsewhere d i j f xs (λ same. other (ap suc same))

-- ---- changes of a stream

stream-written : (change : Change) (left : Shaped) (d : ℕ) → stream_found 0 d (alone (changed change left)) ≡ if_found (stream_effect (width_at left d) 0 d change) (stream_found 0 d (alone left))
stream-written change left d = ap (stream_found 0 d) (one-change change left) ∙ stream-changed 0 d change (alone left)

-- a change that spares elements
abbrev SparesElements : Change → Type 0
SparesElements change = (w : Width) (c k : ℕ) (x : ℤ) → effect_on w 0 c k change x ≡ x

look-spared : (change : Change) → SparesElements change → (left : Shaped) (d k : ℕ) → look (element d k) (alone (changed change left)) ≡ look (element d k) (alone left)
look-spared change spares left d k =
    look-found (element d k) (alone (changed change left))
    ∙ ap (or_default (pos 0)) (element-written change left d k ∙ sym (unchanged (effect_on (width_at left d) 0 d k change) (spares (width_at left d) d k) (element_found (outermost d k) (alone left))))
    ∙ sym (look-found (element d k) (alone left))

-- a stream of another number
waiting-elsewhere : (change : Change) (left : Shaped) (d : ℕ) → ((w : Width) (xs : List ℤ) → stream_effect w 0 d change xs ≡ xs) → waiting 0 d (alone (changed change left)) ≡ waiting 0 d (alone left)
waiting-elsewhere change left d spares =
    waiting-found 0 d (alone (changed change left))
    ∙ ap (or_default []) (stream-written change left d ∙ sym (unchanged (stream_effect (width_at left d) 0 d change) (spares (width_at left d)) (stream_found 0 d (alone left))))
    ∙ sym (waiting-found 0 d (alone left))

-- one that is found
waiting-there : (change : Change) (left : Shaped) (c : ℕ) (values : List ℤ) (f : List ℤ → List ℤ) → stream_found 0 c (alone left) ≡ Some values → stream_effect (width_at left c) 0 c change values ≡ f values → waiting 0 c (alone (changed change left)) ≡ f (waiting 0 c (alone left))
waiting-there change left c values f is does =
    waiting-found 0 c (alone (changed change left))
    ∙ ap (or_default []) (stream-written change left c ∙ ap (if_found (stream_effect (width_at left c) 0 c change)) is)
    ∙ does
    ∙ ap f (sym (waiting-found 0 c (alone left) ∙ ap (or_default []) is))

-- ---- elements are committed as before

same-elements : (naming : Naming) (cut : Overlaid) (streams : List (Option CutStream)) (left memory : Shaped) → Fits naming cut memory → ((d k : ℕ) → look (element d k) (alone left) ≡ look (element d k) (alone cut.left)) → (d e : ℕ) →
    element_found (outermost d e) (alone (committed (record cut { streams = streams; left = left }) memory)) ≡ element_found (outermost d e) (alone (committed cut memory))
same-elements naming cut streams left memory fits looks d e = on (cut-or-not naming cut.arrays fits.numbered fits.one d e)
  where
    on : IsCutOrNot cut.arrays d e → element_found (outermost d e) (alone (committed (record cut { streams = streams; left = left }) memory)) ≡ element_found (outermost d e) (alone (committed cut memory))
    on (inl (k, one, there, place)) =
        subst (λ p. element_found (outermost d p) (alone (committed (record cut { streams = streams; left = left }) memory)) ≡ element_found (outermost d p) (alone (committed cut memory))) place
        (element-committed naming (record cut { streams = streams; left = left }) memory fits.numbered fits.one d k one there
        ∙ ap (λ x. if_found (marked_by (width_at memory d) one.mark x) (element_found (outermost d one.place) (alone memory))) (looks d k)
        ∙ sym (element-committed naming cut memory fits.numbered fits.one d k one there))
    on (inr never) = element-uncut naming (record cut { streams = streams; left = left }) memory fits.numbered fits.one d e never ∙ sym (element-uncut naming cut memory fits.numbered fits.one d e never)

here : (c : ℕ) → 0 + c ≡ c
here c = omega arith

-- ---- a value is pushed

push-spares : (c : ℕ) (v : ℤ) → SparesElements (push 0 c v)
push-spares c v w d k x = at-nothing c d x

pub pushed-committed : (naming : Naming) (cut : Overlaid) (memory : Shaped) (c : ℕ) (s : CutStream) (v : ℤ) → Fits naming cut memory → AreElementsOfWidth (alone memory) → stream_at cut c ≡ Some s → IsUsedSo s.usage s.taken s.opening (pushed_to cut c) →
    Agrees (pushed_in c v cut) memory → committed (pushed_in c v cut) memory ≡ changed (push 0 c v) (committed cut memory)
pushed-committed naming cut memory c s v fits elements there used agrees =
    same-memory (changed change before) (committed after memory) (elements-stay (change ∷ []) before (elements-stay (effects cut) memory elements))
    (shapes-stay (effects after) memory ∙ sym (shapes-stay (effects cut) memory)) (shape-stays (effects after) memory ∙ sym (shape-stays (change ∷ []) before ∙ shape-stays (effects cut) memory))
    (λ d e. same-elements naming cut after.streams after.left memory fits (look-spared change (push-spares c v) cut.left) d e
    ∙ unchanged (effect_on (width_at before d) 0 d e change) (push-spares c v (width_at before d) d e) (element_found (outermost d e) (alone before))
    ∙ sym (element-written change before d e))
    (λ d. streams d (same_or_two c d))
  where
    change : Change
    change = push 0 c v

    before : Shaped
    before = committed cut memory

    after : Overlaid
    after = pushed_in c v cut

    w : Width
    w = width_at memory c

    found : (values : List ℤ) × (stream_found 0 c (alone memory) ≡ Some values)
    found = (fits.streams c s there).0

    left_found : (values : List ℤ) × (stream_found 0 c (alone cut.left) ≡ Some values)
    left_found = (fits.streams c s there).1

    wide : width_at cut.left c ≡ width_at memory c
    wide = (fits.streams c s there).2

    there_after : stream_at after c ≡ Some (stream_appended s)
    there_after = list-there None c (option_map stream_appended) cut.streams refl ∙ ap (option_map stream_appended) there

    pushed_after : pushed_to after c ≡ pushed_to cut c ++ wrapped_to (width_at memory c) v ∷ []
    pushed_after =
        waiting-there change cut.left c left_found.0 (λ xs. xs ++ wrapped_to (width_at memory c) v ∷ []) left_found.1
        (at-same c c refl (appended v (width_at cut.left c)) left_found.0 ∙ ap (λ u. left_found.0 ++ wrapped_to u v ∷ []) wide)

    drained_so : s.usage ≡ Drained → found.0 ≡ s.opening
    drained_so usage = sym (stream-there memory c found.0 found.1) ∙ drained-is memory 0 c after.streams c (stream_appended s) (here c) agrees.1 there_after (ap appended_use usage)

    own : stream_found 0 c (alone (committed after memory)) ≡ stream_found 0 c (alone (changed change before))
    own =
        committed-stream after memory c
        ∙ (λ i. if_found (stream_becomes (width_at memory c) (there_after i) (pushed_after i)) (found.1 i))
        ∙ ap Some (pushed-becomes (width_at memory c) s (pushed_to cut c) found.0 v used drained_so)
        ∙ ap (λ u. Some (stream_becomes (width_at memory c) (Some s) (pushed_to cut c) found.0 ++ wrapped_to u v ∷ [])) (sym (width-changed (effects cut) c memory))
        ∙ ap Some (sym (at-same c c refl (appended v (width_at before c)) (stream_becomes (width_at memory c) (Some s) (pushed_to cut c) found.0)))
        ∙ sym (stream-written change before c ∙ ap (if_found (stream_effect (width_at before c) 0 c change)) (committed-stream cut memory c ∙ (λ i. if_found (stream_becomes (width_at memory c) (there i) (pushed_to cut c)) (found.1 i))))

    streams : (d : ℕ) → (c ≡ d) ⊎ (c ≡ d → ⊥) → stream_found 0 d (alone (committed after memory)) ≡ stream_found 0 d (alone (changed change before))
    streams d (inl same) = subst (λ n. stream_found 0 n (alone (committed after memory)) ≡ stream_found 0 n (alone (changed change before))) same own
    streams d (inr two) =
        committed-stream after memory d
        ∙ (λ i. if_found (stream_becomes (width_at memory d) (list-elsewhere None c d (option_map stream_appended) cut.streams two i) (waiting-elsewhere change cut.left d (λ u xs. at-other c d two (appended v u) xs) i)) (stream_found 0 d (alone memory)))
        ∙ sym (committed-stream cut memory d)
        ∙ unchanged (stream_effect (width_at before d) 0 d change) (λ xs. at-other c d two (appended v (width_at before d)) xs) (stream_found 0 d (alone before))
        ∙ sym (stream-written change before d)

-- ---- the oldest value is taken

take-spares : (c : ℕ) → SparesElements (take 0 c 0)
take-spares c w d k x = at-nothing c d x

-- what work sees of a stream is what waits in the memory for which the cut stands
pub values-committed : (naming : Naming) (cut : Overlaid) (memory : Shaped) (c : ℕ) (s : CutStream) → Fits naming cut memory → AreValuesOfWidth (alone cut.left) → stream_at cut c ≡ Some s → IsUsedSo s.usage s.taken s.opening (pushed_to cut c) →
    Agrees (taken_in c cut) memory → stream_found 0 c (alone (committed cut memory)) ≡ Some (values_seen c cut)
values-committed naming cut memory c s fits lefts there used agrees =
    committed-stream cut memory c
    ∙ (λ i. if_found (stream_becomes (width_at memory c) (there i) (pushed_to cut c)) ((found.1 ∙ ap Some opened) i))
    ∙ ap Some (seen-becomes (width_at memory c) s (pushed_to cut c) used pushed_fits)
    ∙ ap (λ o. Some (seen_of o (pushed_to cut c))) (sym there)
  where
    found : (values : List ℤ) × (stream_found 0 c (alone memory) ≡ Some values)
    found = (fits.streams c s there).0

    left_found : (values : List ℤ) × (stream_found 0 c (alone cut.left) ≡ Some values)
    left_found = (fits.streams c s there).1

    there_after : stream_at (taken_in c cut) c ≡ Some (stream_taken s)
    there_after = list-there None c (option_map stream_taken) cut.streams refl ∙ ap (option_map stream_taken) there

    opened : found.0 ≡ s.opening
    opened = sym (stream-there memory c found.0 found.1) ∙ drained-is memory 0 c (taken_in c cut).streams c (stream_taken s) (here c) agrees.1 there_after refl

    pushed_fits : map (wrapped_to (width_at memory c)) (pushed_to cut c) ≡ pushed_to cut c
    pushed_fits =
        subst (λ u. map (wrapped_to u) (pushed_to cut c) ≡ pushed_to cut c) (fits.streams c s there).2
        (subst (λ l. map (wrapped_to (width_at cut.left c)) l ≡ l) (sym (waiting-found 0 c (alone cut.left) ∙ ap (or_default []) left_found.1)) (lefts c left_found.0 left_found.1))

pub taken-committed : (naming : Naming) (cut : Overlaid) (memory : Shaped) (c : ℕ) (s : CutStream) → Fits naming cut memory → AreElementsOfWidth (alone memory) → AreValuesOfWidth (alone cut.left) → stream_at cut c ≡ Some s →
    IsUsedSo s.usage s.taken s.opening (pushed_to cut c) → Agrees (taken_in c cut) memory → committed (taken_in c cut) memory ≡ changed (take 0 c 0) (committed cut memory)
taken-committed naming cut memory c s fits elements lefts there used agrees =
    same-memory (changed change before) (committed after memory) (elements-stay (change ∷ []) before (elements-stay (effects cut) memory elements))
    (shapes-stay (effects after) memory ∙ sym (shapes-stay (effects cut) memory)) (shape-stays (effects after) memory ∙ sym (shape-stays (change ∷ []) before ∙ shape-stays (effects cut) memory))
    (λ d e. same-elements naming cut after.streams after.left memory fits (looks (next_at cut c)) d e
    ∙ unchanged (effect_on (width_at before d) 0 d e change) (take-spares c (width_at before d) d e) (element_found (outermost d e) (alone before))
    ∙ sym (element-written change before d e))
    (λ d. streams d (same_or_two c d))
  where
    change : Change
    change = take 0 c 0

    before : Shaped
    before = committed cut memory

    after : Overlaid
    after = taken_in c cut

    found : (values : List ℤ) × (stream_found 0 c (alone memory) ≡ Some values)
    found = (fits.streams c s there).0

    left_found : (values : List ℤ) × (stream_found 0 c (alone cut.left) ≡ Some values)
    left_found = (fits.streams c s there).1

    looks : (next : Option ℤ) (d k : ℕ) → look (element d k) (alone (left_taken next c cut.left)) ≡ look (element d k) (alone cut.left)
    looks None d k = look-spared change (take-spares c) cut.left d k
    looks (Some value) d k = refl

    there_after : stream_at after c ≡ Some (stream_taken s)
    there_after = list-there None c (option_map stream_taken) cut.streams refl ∙ ap (option_map stream_taken) there

    opened : found.0 ≡ s.opening
    opened = sym (stream-there memory c found.0 found.1) ∙ drained-is memory 0 c after.streams c (stream_taken s) (here c) agrees.1 there_after refl

    next_so : next_at cut c ≡ next_cut s
    next_so = ap (λ (o : Option CutStream). next_of o) there
      where
        next_of : Option CutStream → Option ℤ
        next_of None = None
        next_of (Some stream) = next_cut stream

    pushed_by_next : (next : Option ℤ) → waiting 0 c (alone (left_taken next c cut.left)) ≡ pushed_left next (pushed_to cut c)
    pushed_by_next None = waiting-there change cut.left c left_found.0 (without 0) left_found.1 (at-same c c refl (without 0) left_found.0)
    pushed_by_next (Some value) = refl

    pushed_after : pushed_to after c ≡ pushed_left (next_cut s) (pushed_to cut c)
    pushed_after = pushed_by_next (next_at cut c) ∙ ap (λ o. pushed_left o (pushed_to cut c)) next_so

    pushed_fits : map (wrapped_to (width_at memory c)) (pushed_to cut c) ≡ pushed_to cut c
    pushed_fits =
        subst (λ u. map (wrapped_to u) (pushed_to cut c) ≡ pushed_to cut c) (fits.streams c s there).2
        (subst (λ l. map (wrapped_to (width_at cut.left c)) l ≡ l) (sym (waiting-found 0 c (alone cut.left) ∙ ap (or_default []) left_found.1)) (lefts c left_found.0 left_found.1))

    seen_so : values_seen c cut ≡ stream_seen s (pushed_to cut c)
    seen_so = ap (λ o. seen_of o (pushed_to cut c)) there

    own : stream_found 0 c (alone (committed after memory)) ≡ stream_found 0 c (alone (changed change before))
    own =
        committed-stream after memory c
        ∙ (λ i. if_found (stream_becomes (width_at memory c) (there_after i) (pushed_after i)) ((found.1 ∙ ap Some opened) i))
        ∙ ap Some (taken-becomes (width_at memory c) s (pushed_to cut c) used pushed_fits)
        ∙ ap (λ l. Some (without 0 l)) (sym seen_so)
        ∙ ap Some (sym (at-same c c refl (without 0) (values_seen c cut)))
        ∙ sym (stream-written change before c ∙ ap (if_found (stream_effect (width_at before c) 0 c change)) (values-committed naming cut memory c s fits lefts there used agrees))

    waits : (next : Option ℤ) (d : ℕ) → (c ≡ d → ⊥) → waiting 0 d (alone (left_taken next c cut.left)) ≡ waiting 0 d (alone cut.left)
    waits None d two = waiting-elsewhere change cut.left d (λ u xs. at-other c d two (without 0) xs)
    waits (Some value) d two = refl

    streams : (d : ℕ) → (c ≡ d) ⊎ (c ≡ d → ⊥) → stream_found 0 d (alone (committed after memory)) ≡ stream_found 0 d (alone (changed change before))
    streams d (inl same) = subst (λ n. stream_found 0 n (alone (committed after memory)) ≡ stream_found 0 n (alone (changed change before))) same own
    streams d (inr two) =
        committed-stream after memory d
        ∙ (λ i. if_found (stream_becomes (width_at memory d) (list-elsewhere None c d (option_map stream_taken) cut.streams two i) (waits (next_at cut c) d two i)) (stream_found 0 d (alone memory)))
        ∙ sym (committed-stream cut memory d)
        ∙ unchanged (stream_effect (width_at before d) 0 d change) (λ xs. at-other c d two (without 0) xs) (stream_found 0 d (alone before))
        ∙ sym (stream-written change before d)

-- the oldest value
pub oldest-committed : (naming : Naming) (cut : Overlaid) (memory : Shaped) (c : ℕ) (s : CutStream) → Fits naming cut memory → AreValuesOfWidth (alone cut.left) → stream_at cut c ≡ Some s → IsUsedSo s.usage s.taken s.opening (pushed_to cut c) →
    Agrees (taken_in c cut) memory → values_seen c cut ≡ waiting 0 c (alone (committed cut memory))
oldest-committed naming cut memory c s fits lefts there used agrees =
    sym (waiting-found 0 c (alone (committed cut memory)) ∙ ap (or_default []) (values-committed naming cut memory c s fits lefts there used agrees))
