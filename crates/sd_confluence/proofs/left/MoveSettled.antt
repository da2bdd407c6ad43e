-- A move of a settled term, and the same move of the term before it was settled: they leave the same, once both are settled.
use Rattle.std.proofs.Common.{◌≡◌, ℕ, zero, suc, ◌+◌, ◌<◌, ℤ, List, [], ◌∷◌, ◌++◌, map, length, Option, Some, None, Bool, true, false, cond, not, ◌&&◌, ◌||◌, slice_get, slice_index_or, refl, sym, ◌∙◌, ap, subst, arith, inl, inr, ◌⊎◌}
use Rattle.sd_num.specs.declared.width.Width.TheVariants.{W64}
use Rattle.sd_work.specs.Memory.{Contents, array, stream, Memory, Memories, values_of, waiting}
use Rattle.sd_work.specs.Change.{Change, take, apply, outer, own_after, changed_at, without, with_values}
use Rattle.sd_work.specs.LeafMove.{leaf_move}
use Rattle.sd_work.specs.Exit.{first_exit}
use Rattle.sd_work.specs.Move.{Move, fails, goes, no_move, map_move}
use Rattle.sd_work.specs.Residual.{Parts, Items, Points, Term, leaf, list, owning, nested, ended, pool, Terms, none, also, part_at, Actives, idle, busy, finished, none_active, flags_of, is_ready, ready_from}
use Rattle.sd_work.specs.Moves.{Path}
use Rattle.sd_work.specs.Fire.{owned, transition, and_last, take_move, fire, fire_part, fire_active}
use Rattle.sd_work.specs.Settle.{is_empty, all_true, is_first_left, settle, settle_parts, settle_active}
use Rattle.sd_work.specs.Touch.{Touch, takes, Touches, SomeActiveTouches, AreCompatible, SparesWork}
use Rattle.sd_work.proofs.Absorbing.{stays, Below, below_more, ready_up, KeepParts, absorb, absorb_parts}
use Rattle.sd_work.proofs.Changes.{waiting-apply, apply-own}
use Rattle.sd_work.proofs.Flags.{both, and_false, and_up, not_true}
use Rattle.sd_work.proofs.left_to_right.Fronts.{longer}
use Rattle.sd_confluence.specs.Safe.{IsSafe, AreSafe, AreActiveSafe, TouchCompatibly}
use Rattle.sd_confluence.proofs.image.Images.{IsNext, IsNextAt, IsNextIn, IsNextHere}
use Rattle.sd_confluence.proofs.image.NextLinked.{next-unfinished}
use Rattle.sd_confluence.proofs.settling.ClosedPools.{settle-finished}
use Rattle.sd_confluence.proofs.settling.ClosedKept.{closed-safe}
use Rattle.sd_confluence.proofs.commuting.Stable.{apart_sym}
use Rattle.sd_confluence.proofs.left.Beside.{put_at, moved_part, part_move, unseen}
use Rattle.sd_confluence.proofs.left.Sides.{flag_down}

-- ---- what is next stays so where a term is settled

open_by_value : (closed go quiet empty clear : Bool) → closed ≡ false → empty ≡ false → (closed || (go && (quiet && (empty && clear)))) ≡ false
open_by_value true go quiet empty clear e f = e
open_by_value false false quiet empty clear e f = refl
open_by_value false true false empty clear e f = refl
open_by_value false true true false clear e f = refl
open_by_value false true true true clear e f = cc

open_by_work : (closed go quiet empty clear : Bool) → closed ≡ false → quiet ≡ false → (closed || (go && (quiet && (empty && clear)))) ≡ false
open_by_work true go quiet empty clear e f = e
open_by_work false false quiet empty clear e f = refl
open_by_work false true false empty clear e f = refl
open_by_work false true true empty clear e f = cc

not_empty : (vs : List ℤ) (k : ℕ) (v : ℤ) → slice_get vs k ≡ Some v → is_empty vs ≡ false
not_empty [] k v e = cc
not_empty (w ∷ vs) k v e = refl

working : {P : Type 0} (ts : Actives P) (k : ℕ) (p : Path) (s : Memories) → IsNextIn ts k p s → none_active ts ≡ false
working idle k p s c = absurd c
working (busy v t ts) zero p s c = ap (λ b. b && none_active ts) (next-unfinished t p s c)
working (busy v t ts) (suc k) p s c = and_false (finished t) (none_active ts) (working ts k p s c)

flags_settled : {P : Type 0} (go : Bool) (cl : List Bool) (s : Memories) (kind : Parts) (before : ℕ → ℕ → Bool) (fs : List Bool) (n : ℕ) (ts : Terms P) → Below (flags_of ts) (flags_of (settle_parts go cl s kind before fs n ts))
flags_settled go cl s kind before fs n none = tt
flags_settled go cl s kind before fs n (also t ts) =
    (stays (go && is_ready before fs n) (map (λ flag. is_first_left kind fs && flag) cl) s t, flags_settled go cl s kind before (fs ++ finished (settle (go && is_ready before fs n) (map (λ flag. is_first_left kind fs && flag) cl) s t) ∷ []) (suc n) ts)

nested_next : (b c : Bool) (p : Path) (C D : Type 0) → (b ≡ true → c ≡ true) → (C → (c ≡ false) × D) → IsNextHere b p C → IsNextHere c p D
nested_next true true p C D h k x = x
nested_next true false p C D h k x = let no : false ≡ true = h refl in cc
nested_next false true p C D h k x = let no : true ≡ false = (k x).0 in cc
nested_next false false p C D h k x = (k x).1

mutual
  pub next-settled : {P : Type 0} (go : Bool) (cl : List Bool) (s : Memories) (t : Term P) (p : Path) → IsNext t p s → IsNext (settle go cl s t) p s
  next-settled go cl s (leaf place work) p c = c
  next-settled go cl s (list kind before ts) [] c = absurd c
  next-settled go cl s (list kind before ts) (k ∷ p) c =
      (ready_up before 0 (flags_of ts) (flags_of (settle_parts go cl s kind before [] 0 ts)) k (flags_settled go cl s kind before [] 0 ts) c.0, next_settled_at go cl s kind before [] 0 ts k p c.1)
  next-settled go cl s (owning own t) p c = next-settled go (true ∷ cl) (own ∷ s) t p c
  next-settled {P} go cl s (nested body exits own state values t) p c =
      let inside : Term P = settle go (true ∷ cl) (own ∷ s) t in
      nested_next (finished t) (finished inside) p (IsNext t p (own ∷ s)) (IsNext inside p (own ∷ s)) (stays go (true ∷ cl) (own ∷ s) t)
      (λ d. let next : IsNext inside p (own ∷ s) = next-settled go (true ∷ cl) (own ∷ s) t p d in (next-unfinished inside p (own ∷ s) next, next)) c
  next-settled go cl s (ended own) p c = absurd c
  next-settled go cl s (pool l k body active closed) [] c = absurd c
  next-settled go cl s (pool l k body active closed) (zero ∷ []) c = absurd c
  next-settled go cl s (pool l k body active closed) (zero ∷ i ∷ p) c =
      (open_by_value closed go (none_active (settle_active go cl s active)) (is_empty (waiting l k s)) (slice_index_or cl l false) c.0 (not_empty (waiting l k s) i c.2.0 c.2.1), c.1, c.2)
  next-settled go cl s (pool l k body active closed) (suc zero ∷ []) c = absurd c
  next-settled go cl s (pool l k body active closed) (suc zero ∷ i ∷ p) c =
      let next = next_settled_in go cl s active i p c.1 in
      (open_by_work closed go (none_active (settle_active go cl s active)) (is_empty (waiting l k s)) (slice_index_or cl l false) c.0 (working (settle_active go cl s active) i p s next), next)
  next-settled go cl s (pool l k body active closed) (suc (suc n) ∷ p) c = absurd c

  next_settled_at : {P : Type 0} (go : Bool) (cl : List Bool) (s : Memories) (kind : Parts) (before : ℕ → ℕ → Bool) (fs : List Bool) (n : ℕ) (ts : Terms P) (k : ℕ) (p : Path) → IsNextAt ts k p s → IsNextAt (settle_parts go cl s kind before fs n ts) k p s
  next_settled_at go cl s kind before fs n none k p c = absurd c
  next_settled_at go cl s kind before fs n (also t ts) zero p c = next-settled (go && is_ready before fs n) (map (λ flag. is_first_left kind fs && flag) cl) s t p c
  next_settled_at go cl s kind before fs n (also t ts) (suc k) p c = next_settled_at go cl s kind before (fs ++ finished (settle (go && is_ready before fs n) (map (λ flag. is_first_left kind fs && flag) cl) s t) ∷ []) (suc n) ts k p c

  next_settled_in : {P : Type 0} (go : Bool) (cl : List Bool) (s : Memories) (ts : Actives P) (k : ℕ) (p : Path) → IsNextIn ts k p s → IsNextIn (settle_active go cl s ts) k p s
  next_settled_in go cl s idle k p c = absurd c
  next_settled_in go cl s (busy v t ts) zero p c = next-settled go cl s t p c
  next_settled_in go cl s (busy v t ts) (suc k) p c = next_settled_in go cl s ts k p c

-- ---- answers that are the same once what they leave is settled

abbrev pub Same : {P A : Type 0} → (Change → A → A → Type 0) → Move P A → Move P A → Type 0
Same {P} {A} T (fails b fault) m = m ≡ fails b fault
Same {P} {A} T (goes b u y) m = (x : A) × (m ≡ goes b u x) × T u y x
Same {P} {A} T no_move m = m ≡ no_move

same_map : {P A B : Type 0} (T : Change → A → A → Type 0) (U : Change → B → B → Type 0) (f g : A → B) (m n : Move P A) → ((b : Bool) (u : Change) (y x : A) → m ≡ goes b u y → T u y x → U u (f y) (g x)) → Same T m n → Same U (map_move f m) (map_move g n)
same_map T U f g (fails b fault) n h k = ap (map_move g) k
same_map T U f g (goes b u y) n h k = (g k.0, ap (map_move g) k.1, h b u y k.0 refl k.2)
same_map T U f g no_move n h k = ap (map_move g) k

same_self : {P A : Type 0} (T : Change → A → A → Type 0) (m : Move P A) → ((u : Change) (y : A) → T u y y) → Same T m m
same_self T (fails b fault) h = refl
same_self T (goes b u y) h = (y, refl, h u y)
same_self T no_move h = refl

-- by whatever later settling, over the memories after the change
abbrev pub Later : {P : Type 0} → Bool → List Bool → Memories → Change → Term P → Term P → Type 0
Later go cl s u y x = (go' : Bool) (cl' : List Bool) → (go ≡ true → go' ≡ true) → Below cl cl' → settle go' cl' (apply u s) x ≡ settle go' cl' (apply u s) y

abbrev PartsLater : {P : Type 0} → Bool → List Bool → Memories → Parts → (ℕ → ℕ → Bool) → List Bool → ℕ → Change → Terms P → Terms P → Type 0
PartsLater go cl s kind before fs n u ys xs =
    (go' : Bool) (cl' : List Bool) → (go ≡ true → go' ≡ true) → Below cl cl' → (fs' : List Bool) → Below fs fs' → settle_parts go' cl' (apply u s) kind before fs' n xs ≡ settle_parts go' cl' (apply u s) kind before fs' n ys

abbrev ActiveLater : {P : Type 0} → Bool → List Bool → Memories → Change → Actives P → Actives P → Type 0
ActiveLater go cl s u ys xs = (go' : Bool) (cl' : List Bool) → (go ≡ true → go' ≡ true) → Below cl cl' → settle_active go' cl' (apply u s) xs ≡ settle_active go' cl' (apply u s) ys

same_owned : {P : Type 0} (whole : Memory → Term P → Term P) → ((f : Memory) (z : Term P) (go : Bool) (cl : List Bool) (s : Memories) → settle go cl s (whole f z) ≡ whole f (settle go (true ∷ cl) (f ∷ s) z)) →
    (own : Memory) (go : Bool) (cl : List Bool) (s : Memories) (m n : Move P (Term P)) → Same (Later go (true ∷ cl) (own ∷ s)) m n → Same (Later go cl s) (owned whole own m) (owned whole own n)
same_owned whole settles own go cl s (fails b fault) n k = ap (owned whole own) k
same_owned whole settles own go cl s (goes b u y) n k = (
  whole (own_after u own) k.0,
  ap (owned whole own) k.1,
  λ go' cl' up below.
      settles (own_after u own) k.0 go' cl' (apply (outer u) s)
      ∙ ap (whole (own_after u own)) (subst (λ w. settle go' (true ∷ cl') w k.0 ≡ settle go' (true ∷ cl') w y) (apply-own u own s) (k.2 go' (true ∷ cl') up ((λ e. e), below)))
      ∙ sym (settles (own_after u own) y go' cl' (apply (outer u) s)),
)
same_owned whole settles own go cl s no_move n k = ap (owned whole own) k

-- ---- streams that stay empty

abbrev Still : {P : Type 0} → Memories → Memories → Term P → Type 0
Still s s' t = (l c : ℕ) → Touches t (takes l c) → is_empty (waiting l c s) ≡ true → is_empty (waiting l c s') ≡ true

spared_still : {P : Type 0} (t : Term P) (u : Change) (s : Memories) → SparesWork t u → Still s (apply u s) t
spared_still t u s h l c a e = ap is_empty (waiting-apply l c u (h (takes l c) a) s) ∙ e

empty_contents : (j : ℕ) (k : Contents) → is_empty (values_of k) ≡ true → is_empty (values_of (with_values (λ width. without j) k)) ≡ true
empty_contents j (array width elements) e = e
empty_contents j (stream width []) e = refl
empty_contents j (stream width (v ∷ vs)) e = cc

empty_memory : (j c d : ℕ) (m : Memory) → is_empty (values_of (slice_index_or m d (stream W64 []))) ≡ true → is_empty (values_of (slice_index_or (changed_at c (with_values (λ width. without j)) m) d (stream W64 []))) ≡ true
empty_memory j c d [] e = e
empty_memory j zero zero (k ∷ m) e = empty_contents j k e
empty_memory j zero (suc d) (k ∷ m) e = e
empty_memory j (suc c) zero (k ∷ m) e = e
empty_memory j (suc c) (suc d) (k ∷ m) e = empty_memory j c d m e

empty_stack : (j l c i d : ℕ) (s : Memories) → is_empty (waiting i d s) ≡ true → is_empty (waiting i d (apply (take l c j) s)) ≡ true
empty_stack j l c i d [] e = e
empty_stack j zero c zero d (m ∷ s) e = empty_memory j c d m e
empty_stack j zero c (suc i) d (m ∷ s) e = e
empty_stack j (suc l) c zero d (m ∷ s) e = e
empty_stack j (suc l) c (suc i) d (m ∷ s) e = empty_stack j l c i d s e

actives_absorb : {P : Type 0} (go go' : Bool) → (go ≡ true → go' ≡ true) → (cl cl' : List Bool) → Below cl cl' → (s s' : Memories) (ts : Actives P) →
    ((l c : ℕ) → SomeActiveTouches ts (takes l c) → is_empty (waiting l c s) ≡ true → is_empty (waiting l c s') ≡ true) → settle_active go' cl' s' (settle_active go cl s ts) ≡ settle_active go' cl' s' ts
actives_absorb go go' g cl cl' b s s' idle h = refl
actives_absorb go go' g cl cl' b s s' (busy v t ts) h =
    λ i. busy v (absorb go go' g cl cl' b s s' t (λ l c a x y e. h l c (inl a) e) i) (actives_absorb go go' g cl cl' b s s' ts (λ l c a e. h l c (inr a) e) i)

last_settled : {P : Type 0} (go : Bool) (cl : List Bool) (s : Memories) (ts : Actives P) (v : ℤ) (t : Term P) → settle_active go cl s (and_last ts v t) ≡ and_last (settle_active go cl s ts) v (settle go cl s t)
last_settled go cl s idle v t = refl
last_settled go cl s (busy w x ts) v t = ap (busy w (settle go cl s x)) (last_settled go cl s ts v t)

-- ---- flags

all_up : (us vs : List Bool) → Below us vs → all_true us ≡ true → all_true vs ≡ true
all_up [] [] h e = refl
all_up [] (b ∷ vs) h e = absurd h
all_up (a ∷ us) [] h e = absurd h
all_up (a ∷ us) (b ∷ vs) h e = and_up a (all_true us) b (all_true vs) h.0 (all_up us vs h.1) e

first_up : (kind : Parts) (us vs : List Bool) → Below us vs → is_first_left kind us ≡ true → is_first_left kind vs ≡ true
first_up Items us vs h e = refl
first_up Points us vs h e = all_up us vs h e

map_up : (a b : Bool) (us vs : List Bool) → (a ≡ true → b ≡ true) → Below us vs → Below (map (λ flag. a && flag) us) (map (λ flag. b && flag) vs)
map_up a b [] [] g h = tt
map_up a b [] (y ∷ vs) g h = absurd h
map_up a b (x ∷ us) [] g h = absurd h
map_up a b (x ∷ us) (y ∷ vs) g h = (and_up a x b y g h.0, map_up a b us vs g h.1)

ready_front : (before : ℕ → ℕ → Bool) (j : ℕ) (bs cs : List Bool) (k : ℕ) → ready_from before j (bs ++ cs) k ≡ true → ready_from before j bs k ≡ true
ready_front before j [] cs k e = refl
ready_front before j (b ∷ bs) cs k e =
    let h = both (b || not (before j k)) (ready_from before (suc j) (bs ++ cs) k) e in
    let rest = ready_front before (suc j) bs cs k h.1 in
    λ i. h.0 i && rest i

not_past : (before : ℕ → ℕ → Bool) (j : ℕ) (fs : List Bool) (i : ℕ) → ready_from before j (fs ++ false ∷ []) i ≡ true → before (length fs + j) i ≡ false
not_past before j [] i e =
    let g : before j i ≡ false = not_true (before j i) (both (not (before j i)) true e).0 in
    let same : j ≡ 0 + j = omega arith in
    subst (λ k. before k i ≡ false) same g
not_past before j (f ∷ fs) i e =
    let g = not_past before (suc j) fs i (both (f || not (before j i)) (ready_from before (suc j) (fs ++ false ∷ []) i) e).1 in
    let same : length fs + suc j ≡ suc (length fs) + j = omega arith in
    subst (λ k. before k i ≡ false) same g

-- parts that do not wait for the one that moved see nothing of it
keep_tail : {P : Type 0} (go : Bool) (cl : List Bool) (s s' : Memories) (kind : Parts) (before : ℕ → ℕ → Bool) (j : ℕ) (fs : List Bool) (n : ℕ) (ts : Terms P) →
    ((i : ℕ) → ready_from before 0 fs i ≡ true → before j i ≡ false) → ((i : ℕ) → before j (i + n) ≡ false → Still s s' (part_at ts i)) → KeepParts go cl s s' kind before fs n ts
keep_tail go cl s s' kind before j fs n none h k = tt
keep_tail go cl s s' kind before j fs n (also t ts) h k =
    let here : n ≡ 0 + n = omega arith in (
      λ l c a g x e. k 0 (subst (λ w. before j w ≡ false) here (h n (both go (is_ready before fs n) g).1)) l c a e,
      λ b. keep_tail go cl s s' kind before j (fs ++ b ∷ []) (suc n) ts (λ i r. h i (ready_front before 0 fs (b ∷ []) i r))
          (λ i r. let same : i + suc n ≡ suc i + n = omega arith in k (suc i) (subst (λ w. before j w ≡ false) same r)),
    )

-- ---- active terms by number

abbrev term_in : {P : Type 0} → Actives P → ℕ → Term P
term_in idle k = ended []
term_in (busy v t ts) zero = t
term_in (busy v t ts) (suc k) = term_in ts k

abbrev put_in : {P : Type 0} → Actives P → ℕ → Term P → Actives P
put_in idle k x = idle
put_in (busy v t ts) zero x = busy v x ts
put_in (busy v t ts) (suc k) x = busy v t (put_in ts k x)

map_after : {P A B C : Type 0} (f : B → C) (g : A → B) (m : Move P A) → map_move f (map_move g m) ≡ map_move (λ x. f (g x)) m
map_after f g (fails turn fault) = refl
map_after f g (goes turn change left) = refl
map_after f g no_move = refl

active_move : {P : Type 0} (ts : Actives P) (k : ℕ) (p : Path) (s : Memories) → fire_active ts k p s ≡ map_move (put_in ts k) (fire (term_in ts k) p s)
active_move idle k p s = refl
active_move (busy v t ts) zero p s = refl
active_move (busy v t ts) (suc k) p s = ap (map_move (busy v t)) (active_move ts k p s) ∙ map_after (busy v t) (put_in ts k) (fire (term_in ts k) p s)

touched_in : {P : Type 0} (ts : Actives P) (k : ℕ) (a : Touch) → Touches (term_in ts k) a → SomeActiveTouches ts a
touched_in idle k a h = absurd h
touched_in (busy v t ts) zero a h = inl h
touched_in (busy v t ts) (suc k) a h = inr (touched_in ts k a h)

unseen_active : {P : Type 0} (ts : Actives P) (k : ℕ) (p : Path) (s : Memories) (other : Term P) (b : Bool) (u : Change) (us : Actives P) → fire_active ts k p s ≡ goes b u us → TouchCompatibly (term_in ts k) other → SparesWork other u
unseen_active ts k p s other b u us e apart =
    let one = moved_part (put_in ts k) (fire (term_in ts k) p s) b u us (sym (active_move ts k p s) ∙ e) in
    unseen (term_in ts k) other one.0 p s b u apart one.1

-- active terms beside one that moved
some_still : {P : Type 0} (t : Term P) (ts : Actives P) (p : Path) (s : Memories) (b : Bool) (u : Change) (y : Term P) → fire t p s ≡ goes b u y → ((a c : Touch) → Touches t a → SomeActiveTouches ts c → AreCompatible a c) →
    (l c : ℕ) → SomeActiveTouches ts (takes l c) → is_empty (waiting l c s) ≡ true → is_empty (waiting l c (apply u s)) ≡ true
some_still t idle p s b u y e apart l c a w = absurd a
some_still t (busy v x ts) p s b u y e apart l c a w = elim a [
  | inl here ↦ spared_still x u s (unseen t x y p s b u (λ a' b' i j. apart a' b' i (inl j)) e) l c here w
  | inr later ↦ some_still t ts p s b u y e (λ a' b' i j. apart a' b' i (inr j)) l c later w
]

unseen_part : {P : Type 0} (ts : Terms P) (k : ℕ) (p : Path) (s : Memories) (other : Term P) (b : Bool) (u : Change) (us : Terms P) → fire_part ts k p s ≡ goes b u us → TouchCompatibly (part_at ts k) other → SparesWork other u
unseen_part ts k p s other b u us e apart =
    let one = moved_part (put_at ts k) (fire (part_at ts k) p s) b u us (sym (part_move ts k p s) ∙ e) in
    unseen (part_at ts k) other one.0 p s b u apart one.1

-- ---- moves

nested_same : {P : Type 0} (T : Change → Term P → Term P → Type 0) (a b : Bool) (p : Path) (C : Type 0) (m n n' : Move P (Term P)) → ((u : Change) (y : Term P) → T u y y) → (a ≡ true → b ≡ true) → (C → (b ≡ false) × Same T n n') → IsNextHere a p C → Same T (cond a m n) (cond b m n')
nested_same T true true p C m n n' h k r c = same_self T m h
nested_same T true false p C m n n' h k r c = let no : false ≡ true = k refl in cc
nested_same T false true p C m n n' h k r c = let no : true ≡ false = (r c).0 in cc
nested_same T false false p C m n n' h k r c = (r c).1

same_take : {P : Type 0} (T : Change → Term P → Term P → Type 0) (l c : ℕ) (body : ℤ → Term P) (ts us : Actives P) (closed closed' : Bool) (j : ℕ) (o : Option ℤ) →
    ((v : ℤ) → T (take l c j) (pool l c body (and_last ts v (body v)) closed) (pool l c body (and_last us v (body v)) closed')) → Same T (take_move l c body ts closed j o) (take_move l c body us closed' j o)
same_take T l c body ts us closed closed' j None h = refl
same_take T l c body ts us closed closed' j (Some v) h = (pool l c body (and_last us v (body v)) closed', refl, h v)

-- the order of a list leads from lower to higher, so of two parts that may go on neither waits for the other
earlier : {P : Type 0} (before : ℕ → ℕ → Bool) (ts : Terms P) (i j : ℕ) → ((i j : ℕ) → i < j → before i j ≡ false → TouchCompatibly (part_at ts i) (part_at ts j)) → is_ready before (flags_of ts) j ≡ true → i < j →
    (b : Bool) → finished (part_at ts i) ≡ b → (finished (part_at ts i) ≡ true) ⊎ TouchCompatibly (part_at ts j) (part_at ts i)
earlier before ts i j f r less true e = inl e
earlier before ts i j f r less false e =
    let same : i ≡ i + 0 = omega arith in
    inr (λ a b x y. apart_sym b a (f i j less (ap (λ m. before m j) same ∙ flag_down before ts 0 i j r e) b a y x))

mutual
  pub moved-settled : {P : Type 0} (t : Term P) (p : Path) (s : Memories) → IsSafe t → IsNext t p s → (go : Bool) (cl : List Bool) → Same (Later go cl s) (fire t p s) (fire (settle go cl s t) p s)
  moved-settled (leaf place work) p s f c go cl = same_self (Later go cl s) (map_move (leaf place) (leaf_move place work s)) (λ u y go' cl' up below. refl)
  moved-settled (list kind before ts) [] s f c go cl = absurd c
  moved-settled (list kind before ts) (k ∷ p) s f c go cl =
      same_map (PartsLater go cl s kind before [] 0) (Later go cl s) (list kind before) (list kind before) (fire_part ts k p s) (fire_part (settle_parts go cl s kind before [] 0 ts) k p s)
      (λ b u y x e h go' cl' up below. ap (list kind before) (h go' cl' up below [] tt))
      (moved_parts kind before ts k p s f.0 c.1 go cl [] 0 refl (λ i less. earlier before ts i k f.1.compatible c.0 less (finished (part_at ts i)) refl)
      (λ i more free. let same : k + 0 ≡ k = omega arith in
      let also' : i + 0 ≡ i = omega arith in
      f.1.compatible k i more (subst (λ w. before k w ≡ false) also' (subst (λ w. before w (i + 0) ≡ false) same free))))
  moved-settled (owning own t) p s f c go cl =
      same_owned owning (λ m z g c' s'. refl) own go cl s (fire t p (own ∷ s)) (fire (settle go (true ∷ cl) (own ∷ s) t) p (own ∷ s)) (moved-settled t p (own ∷ s) f c go (true ∷ cl))
  moved-settled {P} (nested body exits own state values t) p s f c go cl =
      let inside : Term P = settle go (true ∷ cl) (own ∷ s) t in
      let tr : Move P (Term P) = transition body exits own (first_exit (exits state values) (own ∷ s)) in
      let whole : Memory → Term P → Term P = λ m z. nested body exits m state values z in
      nested_same (Later go cl s) (finished t) (finished inside) p (IsNext t p (own ∷ s)) tr (owned whole own (fire t p (own ∷ s))) (owned whole own (fire inside p (own ∷ s)))
      (λ u y go' cl' up below. refl) (stays go (true ∷ cl) (own ∷ s) t)
      (λ d. (
        next-unfinished inside p (own ∷ s) (next-settled go (true ∷ cl) (own ∷ s) t p d),
        same_owned whole (λ m z g c' s'. refl) own go cl s (fire t p (own ∷ s)) (fire inside p (own ∷ s)) (moved-settled t p (own ∷ s) f.0 d go (true ∷ cl)),
      )) c
  moved-settled (ended own) p s f c go cl = absurd c
  moved-settled (pool l k body active closed) [] s f c go cl = absurd c
  moved-settled (pool l k body active closed) (zero ∷ []) s f c go cl = absurd c
  moved-settled {P} (pool l k body active closed) (zero ∷ i ∷ p) s f c go cl =
      let inside : Actives P = settle_active go cl s active in
      let now : Bool = closed || (go && (none_active inside && (is_empty (waiting l k s) && slice_index_or cl l false))) in
      let still : now ≡ closed = open_by_value closed go (none_active inside) (is_empty (waiting l k s)) (slice_index_or cl l false) c.0 (not_empty (waiting l k s) i c.2.0 c.2.1) ∙ sym c.0 in
      same_take (Later go cl s) l k body active inside closed now i (slice_get (waiting l k s) i)
      (λ v go' cl' up below.
      let s' : Memories = apply (take l k i) s in
      let e : settle_active go' cl' s' (and_last inside v (body v)) ≡ settle_active go' cl' s' (and_last active v (body v)) =
      last_settled go' cl' s' inside v (body v)
      ∙ ap (λ z. and_last z v (settle go' cl' s' (body v))) (actives_absorb go go' up cl cl' below s s' active (λ l' c' a x. empty_stack i l k l' c' s x))
      ∙ sym (last_settled go' cl' s' active v (body v)) in
      λ n. pool l k body (e n) (still n || (go' && (none_active (e n) && (is_empty (waiting l k s') && slice_index_or cl' l false)))))
  moved-settled (pool l k body active closed) (suc zero ∷ []) s f c go cl = absurd c
  moved-settled {P} (pool l k body active closed) (suc zero ∷ i ∷ p) s f c go cl =
      let inside : Actives P = settle_active go cl s active in
      let now : Bool = closed || (go && (none_active inside && (is_empty (waiting l k s) && slice_index_or cl l false))) in
      let still : now ≡ closed = open_by_work closed go (none_active inside) (is_empty (waiting l k s)) (slice_index_or cl l false) c.0 (working inside i p s (next_settled_in go cl s active i p c.1)) ∙ sym c.0 in
      same_map (ActiveLater go cl s) (Later go cl s) (λ x. pool l k body x closed) (λ x. pool l k body x now) (fire_active active i p s) (fire_active inside i p s)
      (λ b u y x e h go' cl' up below n. pool l k body (h go' cl' up below n) (still n || (go' && (none_active (h go' cl' up below n) && (is_empty (waiting l k (apply u s)) && slice_index_or cl' l false)))))
      (moved_active active i p s f.0 (λ a b x y. f.2 a b (inl x) (inl y)) c.1 go cl)
  moved-settled (pool l k body active closed) (suc (suc n) ∷ p) s f c go cl = absurd c

  moved_parts : {P : Type 0} (kind : Parts) (before : ℕ → ℕ → Bool) (ts : Terms P) (k : ℕ) (p : Path) (s : Memories) → AreSafe ts → IsNextAt ts k p s → (go : Bool) (cl fs : List Bool) (n : ℕ) → length fs ≡ n →
      ((i : ℕ) → i < k → (finished (part_at ts i) ≡ true) ⊎ TouchCompatibly (part_at ts k) (part_at ts i)) →
      ((i : ℕ) → k < i → before (k + n) (i + n) ≡ false → TouchCompatibly (part_at ts k) (part_at ts i)) →
      Same (PartsLater go cl s kind before fs n) (fire_part ts k p s) (fire_part (settle_parts go cl s kind before fs n ts) k p s)
  moved_parts kind before none k p s f c go cl fs n long ahead behind = absurd c
  moved_parts {P} kind before (also t ts) zero p s f c go cl fs n long ahead behind =
      let G : Bool = go && is_ready before fs n in
      let C : List Bool = map (λ flag. is_first_left kind fs && flag) cl in
      let left : Term P = settle G C s t in
      let tail : Terms P = settle_parts go cl s kind before (fs ++ finished left ∷ []) (suc n) ts in
      let open' : finished left ≡ false = next-unfinished left p s (next-settled G C s t p c) in
      same_map (Later G C s) (PartsLater go cl s kind before fs n) (λ x. also x ts) (λ x. also x tail) (fire t p s) (fire left p s)
      (λ b u y x e h go' cl' up below fs' bf.
      let s' : Memories = apply u s in
      let G' : Bool = go' && is_ready before fs' n in
      let C' : List Bool = map (λ flag. is_first_left kind fs' && flag) cl' in
      let now : Term P = settle G' C' s' y in
      let same : settle G' C' s' x ≡ now =
      h G' C' (and_up go (is_ready before fs n) go' (is_ready before fs' n) up (ready_up before 0 fs fs' n bf)) (map_up (is_first_left kind fs) (is_first_left kind fs') cl cl' (first_up kind fs fs' bf) below) in
      let keeps : KeepParts go cl s s' kind before (fs ++ finished left ∷ []) (suc n) ts =
      keep_tail go cl s s' kind before n (fs ++ finished left ∷ []) (suc n) ts
      (λ i r. let at : length fs + 0 ≡ n = omega (arith, long) in
      subst (λ w. before w i ≡ false) at (not_past before 0 fs i (subst (λ w. ready_from before 0 (fs ++ w ∷ []) i ≡ true) open' r)))
      (λ i r. let here : n ≡ 0 + n = omega arith in
      let there : i + suc n ≡ suc i + n = omega arith in
      spared_still (part_at ts i) u s (unseen t (part_at ts i) y p s b u (behind (suc i) (omega arith) (subst (λ w. before w (suc i + n) ≡ false) here (subst (λ w. before n w ≡ false) there r))) e)) in
      ap (λ z. also z (settle_parts go' cl' s' kind before (fs' ++ finished z ∷ []) (suc n) tail)) same
      ∙ ap (also now) (absorb_parts go go' up cl cl' below s s' kind before (fs ++ finished left ∷ []) (fs' ++ finished now ∷ [])
      (below_more fs fs' (finished left) (finished now) bf (λ w. let no : true ≡ false = sym w ∙ open' in cc)) (suc n) ts keeps))
      (moved-settled t p s f.0 c G C)
  moved_parts {P} kind before (also t ts) (suc k) p s f c go cl fs n long ahead behind =
      let G : Bool = go && is_ready before fs n in
      let C : List Bool = map (λ flag. is_first_left kind fs && flag) cl in
      let left : Term P = settle G C s t in
      let tail : Terms P = settle_parts go cl s kind before (fs ++ finished left ∷ []) (suc n) ts in
      same_map (PartsLater go cl s kind before (fs ++ finished left ∷ []) (suc n)) (PartsLater go cl s kind before fs n) (also t) (also left) (fire_part ts k p s) (fire_part tail k p s)
      (λ b u ys xs e h go' cl' up below fs' bf.
      let s' : Memories = apply u s in
      let G' : Bool = go' && is_ready before fs' n in
      let C' : List Bool = map (λ flag. is_first_left kind fs' && flag) cl' in
      let now : Term P = settle G' C' s' t in
      let same : settle G' C' s' left ≡ now = elim (ahead 0 (omega arith)) [
        | inl over ↦ ap (settle G' C' s') (settle-finished G C s t (closed-safe t f.0) over)
        | inr apart ↦ absorb G G' (and_up go (is_ready before fs n) go' (is_ready before fs' n) up (ready_up before 0 fs fs' n bf)) C C'
            (map_up (is_first_left kind fs) (is_first_left kind fs') cl cl' (first_up kind fs fs' bf) below) s s' t
            (λ l c' a g x w. spared_still t u s (unseen_part ts k p s t b u ys e apart) l c' a w)
      ] in
      ap (λ z. also z (settle_parts go' cl' s' kind before (fs' ++ finished z ∷ []) (suc n) xs)) same
      ∙ ap (also now) (h go' cl' up below (fs' ++ finished now ∷ []) (below_more fs fs' (finished left) (finished now) bf (λ w. subst (λ z. finished z ≡ true) same (stays G' C' s' left w)))))
      (moved_parts kind before ts k p s f.1 c go cl (fs ++ finished left ∷ []) (suc n) (longer fs (finished left) ∙ ap suc long)
      (λ i less. ahead (suc i) (omega (arith, less)))
      (λ i more free. let k' : k + suc n ≡ suc k + n = omega arith in
      let i' : i + suc n ≡ suc i + n = omega arith in
      behind (suc i) (omega (arith, more)) (subst (λ w. before w (suc i + n) ≡ false) k' (subst (λ w. before (k + suc n) w ≡ false) i' free))))

  moved_active : {P : Type 0} (ts : Actives P) (k : ℕ) (p : Path) (s : Memories) → AreActiveSafe ts → ((a b : Touch) → SomeActiveTouches ts a → SomeActiveTouches ts b → AreCompatible a b) → IsNextIn ts k p s → (go : Bool) (cl : List Bool) →
      Same (ActiveLater go cl s) (fire_active ts k p s) (fire_active (settle_active go cl s ts) k p s)
  moved_active idle k p s f apart c go cl = absurd c
  moved_active (busy v t ts) zero p s f apart c go cl =
      same_map (Later go cl s) (ActiveLater go cl s) (λ x. busy v x ts) (λ x. busy v x (settle_active go cl s ts)) (fire t p s) (fire (settle go cl s t) p s)
      (λ b u y x e h go' cl' up below n. busy v (h go' cl' up below n)
      (actives_absorb go go' up cl cl' below s (apply u s) ts (λ l c' a w. some_still t ts p s b u y e (λ a' b' i j. apart a' b' (inl i) (inr j)) l c' a w) n))
      (moved-settled t p s f.0 c go cl)
  moved_active (busy v t ts) (suc k) p s f apart c go cl =
      same_map (ActiveLater go cl s) (ActiveLater go cl s) (busy v t) (busy v (settle go cl s t)) (fire_active ts k p s) (fire_active (settle_active go cl s ts) k p s)
      (λ b u ys xs e h go' cl' up below n. busy v
      (absorb go go' up cl cl' below s (apply u s) t (λ l c' a g x w. spared_still t u s (unseen_active ts k p s t b u ys e (λ a' b' i j. apart a' b' (inr (touched_in ts k a' i)) (inl j))) l c' a w) n) (h go' cl' up below n))
      (moved_active ts k p s f.1 (λ a b i j. apart a b (inr i) (inr j)) c go cl)
