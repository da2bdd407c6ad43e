-- Next moves of two active terms of one pool commute, and those of an active term and a take.
use Rattle.std.proofs.Common.{◌≡◌, ◌≢◌, ℕ, zero, suc, ℤ, List, [], ◌∷◌, ◌++◌, Some, Bool, false, refl, sym, ◌∙◌, ap, subst, inl, inr, slice_get, slice_index_or}
use Rattle.std.specs.Bool.{⊤}
use Rattle.sd_num.specs.Width.{wrapped_to}
use Rattle.sd_num.specs.declared.width.Width.TheVariants.{W64}
use Rattle.sd_work.specs.Memory.{array, stream, Memory, Memories, values_of, waiting}
use Rattle.sd_work.specs.Change.{Change, nothing, write, push, take, apply, changed_at, without, with_values, appended}
use Rattle.sd_work.specs.Move.{Move, fails, goes, no_move, map_move}
use Rattle.sd_work.specs.Residual.{Term, ended, pool, Actives, idle, busy, finished}
use Rattle.sd_work.specs.Moves.{Path}
use Rattle.sd_work.specs.Fire.{and_last, take_move, fire, fire_active}
use Rattle.sd_work.specs.Touch.{Touch, reads, writes, pushes, takes, Touches, SomeActiveTouches, SparesWork}
use Rattle.sd_work.proofs.Changes.{apply-apply, waiting-apply}
use Rattle.sd_work.proofs.Spared.{fire-apply}
use Rattle.sd_confluence.specs.Alike.{AreStacksAlike}
use Rattle.sd_confluence.specs.Safe.{TouchCompatibly, IsPoolSafe}
use Rattle.sd_confluence.specs.Sides.{AreTermsAlike}
use Rattle.sd_confluence.proofs.image.Images.{IsNext, IsNextIn}
use Rattle.sd_confluence.proofs.left.Beside.{IsChangeOf, changes-touched, map_after, moved_part, unseen, changes-alike, same_stack}
use Rattle.sd_confluence.proofs.left.NextListed.{next-unseen}
use Rattle.sd_confluence.proofs.left.Squares.{same_term, Square}

-- ---- active terms by their numbers

-- the active term of a number; where there is none, a run that has ended
abbrev active_at : {P : Type 0} → Actives P → ℕ → Term P
active_at idle k = ended []
active_at (busy v t ts) zero = t
active_at (busy v t ts) (suc k) = active_at ts k

-- active terms with another one at a number
abbrev put_in : {P : Type 0} → Actives P → ℕ → Term P → Actives P
put_in idle k x = idle
put_in (busy v t ts) zero x = busy v x ts
put_in (busy v t ts) (suc k) x = busy v t (put_in ts k x)

active_move : {P : Type 0} (ts : Actives P) (k : ℕ) (p : Path) (s : Memories) → fire_active ts k p s ≡ map_move (put_in ts k) (fire (active_at ts k) p s)
active_move idle k p s = refl
active_move (busy v t ts) zero p s = refl
active_move (busy v t ts) (suc k) p s = ap (map_move (busy v t)) (active_move ts k p s) ∙ map_after (busy v t) (put_in ts k) (fire (active_at ts k) p s)

other_active : {P : Type 0} (ts : Actives P) (k l : ℕ) (x : Term P) → k ≢ l → active_at (put_in ts k x) l ≡ active_at ts l
other_active idle k l x n = refl
other_active (busy v t ts) zero zero x n = absurd (n refl)
other_active (busy v t ts) zero (suc l) x n = refl
other_active (busy v t ts) (suc k) zero x n = refl
other_active (busy v t ts) (suc k) (suc l) x n = other_active ts k l x (λ e. n (ap suc e))

put_put : {P : Type 0} (ts : Actives P) (k l : ℕ) (x y : Term P) → k ≢ l → put_in (put_in ts k x) l y ≡ put_in (put_in ts l y) k x
put_put idle k l x y n = refl
put_put (busy v t ts) zero zero x y n = absurd (n refl)
put_put (busy v t ts) zero (suc l) x y n = refl
put_put (busy v t ts) (suc k) zero x y n = refl
put_put (busy v t ts) (suc k) (suc l) x y n = ap (busy v t) (put_put ts k l x y (λ e. n (ap suc e)))

at_active : {P : Type 0} (ts : Actives P) (k : ℕ) (p : Path) (s : Memories) → IsNextIn ts k p s → IsNext (active_at ts k) p s
at_active idle k p s c = absurd c
at_active (busy v t ts) zero p s c = c
at_active (busy v t ts) (suc k) p s c = at_active ts k p s c

active_next : {P : Type 0} (ts : Actives P) (k : ℕ) (p : Path) (s : Memories) → IsNext (active_at ts k) p s → IsNextIn ts k p s
active_next idle k p s c = absurd c
active_next (busy v t ts) zero p s c = c
active_next (busy v t ts) (suc k) p s c = active_next ts k p s c

-- what one touches the active terms do
active_touches : {P : Type 0} (ts : Actives P) (k : ℕ) (a : Touch) → Touches (active_at ts k) a → SomeActiveTouches ts a
active_touches idle k a h = absurd h
active_touches (busy v t ts) zero a h = inl h
active_touches (busy v t ts) (suc k) a h = inr (active_touches ts k a h)

-- two active terms do not conflict
compatible_active : {P : Type 0} (body : ℤ → Term P) (ts : Actives P) (i j : ℕ) → IsPoolSafe body ts → TouchCompatibly (active_at ts i) (active_at ts j)
compatible_active body ts i j f a b x y = f a b (inl (active_touches ts i a x)) (inl (active_touches ts j b y))

-- an active term takes from no stream outside of it
takes_nothing : {P : Type 0} (body : ℤ → Term P) (ts : Actives P) (i l c : ℕ) → IsPoolSafe body ts → Touches (active_at ts i) (takes l c) → ⊥
takes_nothing body ts i l c f x = compatible_active body ts i i f (takes l c) (takes l c) x x refl refl

pool_move : {P : Type 0} (l k : ℕ) (body : ℤ → Term P) (ts : Actives P) (closed : Bool) (i : ℕ) (p : Path) (s : Memories) → fire (pool l k body ts closed) (1 ∷ i ∷ p) s ≡ map_move (λ x. pool l k body (put_in ts i x) closed) (fire (active_at ts i) p s)
pool_move l k body ts closed i p s = ap (map_move (λ x. pool l k body x closed)) (active_move ts i p s) ∙ map_after (λ x. pool l k body x closed) (put_in ts i) (fire (active_at ts i) p s)

-- ---- two active terms

pub square_two : {P : Type 0} (l k : ℕ) (body : ℤ → Term P) (ts : Actives P) (closed : Bool) (i j : ℕ) (p q : Path) (s : Memories) → i ≢ j → IsPoolSafe body ts →
    IsNext (pool l k body ts closed) (1 ∷ i ∷ p) s → IsNext (pool l k body ts closed) (1 ∷ j ∷ q) s → Square fire IsNext AreTermsAlike finished (pool l k body ts closed) (1 ∷ i ∷ p) (1 ∷ j ∷ q) s
square_two {P} l k body ts closed i j p q s n f c d = λ b u y e.
    let apart = compatible_active body ts i j f in
    let back = compatible_active body ts j i f in
    let one = moved_part (λ x. pool l k body (put_in ts i x) closed) (fire (active_at ts i) p s) b u y (sym (pool_move l k body ts closed i p s) ∙ e) in
    let hidden = unseen (active_at ts i) (active_at ts j) one.0 p s b u apart one.1 in (
      subst (λ z. finished z ≡ false) one.2 c.0,
      subst (λ z. IsNext z (1 ∷ j ∷ q) (apply u s)) one.2
          (c.0, active_next (put_in ts i one.0) j q (apply u s) (subst (λ z. IsNext z q (apply u s)) (sym (other_active ts i j one.0 n)) (next-unseen (active_at ts j) q s u hidden (at_active ts j q s d.1)))),
      λ t v z g.
          let two = moved_part (λ x. pool l k body (put_in (put_in ts i one.0) j x) closed) (fire (active_at (put_in ts i one.0) j) q (apply u s)) t v z
          (sym (pool_move l k body (put_in ts i one.0) closed j q (apply u s)) ∙ ap (λ w. fire w (1 ∷ j ∷ q) (apply u s)) one.2 ∙ g) in
          let same : fire (active_at ts j) q s ≡ goes t v two.0 = sym (fire-apply (active_at ts j) u hidden q s) ∙ ap (λ w. fire w q (apply u s)) (sym (other_active ts i j one.0 n)) ∙ two.1 in
          let hidden_too = unseen (active_at ts j) (active_at ts i) two.0 q s t v back same in
          let m : j ≢ i = λ w. n (sym w) in
          let again : fire (active_at (put_in ts j two.0) i) p (apply v s) ≡ goes b u one.0 =
          ap (λ w. fire w p (apply v s)) (other_active ts j i two.0 m) ∙ fire-apply (active_at ts i) v hidden_too p s ∙ one.1 in
          let last : pool l k body (put_in (put_in ts j two.0) i one.0) closed ≡ z = ap (λ w. pool l k body w closed) (sym (put_put ts i j one.0 two.0 n)) ∙ two.2 in (
            pool l k body (put_in ts j two.0) closed,
            z,
            pool_move l k body ts closed j q s ∙ ap (map_move (λ x. pool l k body (put_in ts j x) closed)) same,
            c.0,
            pool_move l k body (put_in ts j two.0) closed i p (apply v s) ∙ ap (map_move (λ x. pool l k body (put_in (put_in ts j two.0) i x) closed)) again ∙ ap (goes b u) last,
            same_term z,
            changes-alike u v (Touches (active_at ts i)) (Touches (active_at ts j)) (changes-touched (active_at ts i) p s b u one.0 one.1) (changes-touched (active_at ts j) q s t v two.0 same) apart s,
            (c.0, active_next (put_in ts j two.0) i p (apply v s) (subst (λ w. IsNext w p (apply v s)) (sym (other_active ts j i two.0 m)) (next-unseen (active_at ts i) p s v hidden_too (at_active ts i p s c.1)))),
          ),
    )

-- ---- an active term and a take

-- a change that takes from no stream
abbrev TakesNone : Change → Type 0
TakesNone nothing = ⊤
TakesNone (write to by value) = ⊤
TakesNone (push level container value) = ⊤
TakesNone (take level container position) = ⊥

takes_none : (T : Touch → Type 0) → ((l c : ℕ) → T (takes l c) → ⊥) → (u : Change) → IsChangeOf T u → TakesNone u
takes_none T h nothing c = tt
takes_none T h (write to by value) c = tt
takes_none T h (push l k v) c = tt
takes_none T h (take l k i) c = h l k c

get_last : (vs : List ℤ) (w : ℤ) (n : ℕ) (v : ℤ) → slice_get vs n ≡ Some v → slice_get (vs ++ w ∷ []) n ≡ Some v
get_last [] w n v e = cc
get_last (x ∷ vs) w zero v e = e
get_last (x ∷ vs) w (suc n) v e = get_last vs w n v e

without_last : (vs : List ℤ) (w : ℤ) (n : ℕ) (v : ℤ) → slice_get vs n ≡ Some v → without n (vs ++ w ∷ []) ≡ without n vs ++ w ∷ []
without_last [] w n v e = cc
without_last (x ∷ vs) w zero v e = refl
without_last (x ∷ vs) w (suc n) v e = ap (λ ws. x ∷ ws) (without_last vs w n v e)

-- ---- a value that waits, and a push

pushed_memory : (c d : ℕ) (w : ℤ) (m : Memory) (n : ℕ) (v : ℤ) → slice_get (values_of (slice_index_or m c (stream W64 []))) n ≡ Some v →
    slice_get (values_of (slice_index_or (changed_at d (with_values (appended w)) m) c (stream W64 []))) n ≡ Some v
pushed_memory c d w [] n v e = e
pushed_memory zero zero w (array width elements ∷ m) n v e = e
pushed_memory zero zero w (stream width vs ∷ m) n v e = get_last vs (wrapped_to width w) n v e
pushed_memory zero (suc d) w (k ∷ m) n v e = e
pushed_memory (suc c) zero w (k ∷ m) n v e = e
pushed_memory (suc c) (suc d) w (k ∷ m) n v e = pushed_memory c d w m n v e

pushed_stack : (l c i d : ℕ) (w : ℤ) (s : Memories) (n : ℕ) (v : ℤ) → slice_get (waiting l c s) n ≡ Some v → slice_get (waiting l c (apply (push i d w) s)) n ≡ Some v
pushed_stack l c i d w [] n v e = e
pushed_stack zero c zero d w (m ∷ s) n v e = pushed_memory c d w m n v e
pushed_stack zero c (suc i) d w (m ∷ s) n v e = e
pushed_stack (suc l) c zero d w (m ∷ s) n v e = e
pushed_stack (suc l) c (suc i) d w (m ∷ s) n v e = pushed_stack l c i d w s n v e

-- a value waits at its position after each change that takes none
still_waits : (u : Change) → TakesNone u → (l c : ℕ) (s : Memories) (n : ℕ) (v : ℤ) → slice_get (waiting l c s) n ≡ Some v → slice_get (waiting l c (apply u s)) n ≡ Some v
still_waits nothing h l c s n v e = e
still_waits (write to by value) h l c s n v e = ap (λ vs. slice_get vs n) (waiting-apply l c (write to by value) tt s) ∙ e
still_waits (push i d w) h l c s n v e = pushed_stack l c i d w s n v e
still_waits (take i d j) h l c s n v e = absurd h

past_memory : (c d : ℕ) (w : ℤ) (m : Memory) (n : ℕ) (v : ℤ) → slice_get (values_of (slice_index_or m c (stream W64 []))) n ≡ Some v →
    changed_at c (with_values (λ width. without n)) (changed_at d (with_values (appended w)) m) ≡ changed_at d (with_values (appended w)) (changed_at c (with_values (λ width. without n)) m)
past_memory c d w [] n v e = refl
past_memory zero zero w (array width elements ∷ m) n v e = refl
past_memory zero zero w (stream width vs ∷ m) n v e = ap (λ ws. stream width ws ∷ m) (without_last vs (wrapped_to width w) n v e)
past_memory zero (suc d) w (k ∷ m) n v e = refl
past_memory (suc c) zero w (k ∷ m) n v e = refl
past_memory (suc c) (suc d) w (k ∷ m) n v e = ap (λ ks. k ∷ ks) (past_memory c d w m n v e)

past_stack : (l c i d : ℕ) (w : ℤ) (s : Memories) (n : ℕ) (v : ℤ) → slice_get (waiting l c s) n ≡ Some v → apply (take l c n) (apply (push i d w) s) ≡ apply (push i d w) (apply (take l c n) s)
past_stack l c i d w [] n v e = refl
past_stack zero c zero d w (m ∷ s) n v e = ap (λ x. x ∷ s) (past_memory c d w m n v e)
past_stack zero c (suc i) d w (m ∷ s) n v e = refl
past_stack (suc l) c zero d w (m ∷ s) n v e = refl
past_stack (suc l) c (suc i) d w (m ∷ s) n v e = ap (λ r. m ∷ r) (past_stack l c i d w s n v e)

-- a value that waits may be taken before or after each such change
either_first : (u : Change) → TakesNone u → (l c : ℕ) (s : Memories) (n : ℕ) (v : ℤ) → slice_get (waiting l c s) n ≡ Some v → apply (take l c n) (apply u s) ≡ apply u (apply (take l c n) s)
either_first nothing h l c s n v e = refl
either_first (write to by value) h l c s n v e = apply-apply (take l c n) (write to by value) tt s
either_first (push i d w) h l c s n v e = past_stack l c i d w s n v e
either_first (take i d j) h l c s n v e = absurd h

alike_by : (s r : Memories) → s ≡ r → AreStacksAlike s r
alike_by s r e = subst (AreStacksAlike s) e (same_stack s)

-- ---- one more active term

last_active : {P : Type 0} (ts : Actives P) (v : ℤ) (t : Term P) (i : ℕ) (p : Path) (r s : Memories) → IsNextIn ts i p r → fire_active (and_last ts v t) i p s ≡ map_move (λ x. and_last x v t) (fire_active ts i p s)
last_active idle v t i p r s c = absurd c
last_active (busy w x ts) v t zero p r s c = sym (map_after (λ y. and_last y v t) (λ y. busy w y ts) (fire x p s))
last_active (busy w x ts) v t (suc i) p r s c =
    ap (map_move (busy w x)) (last_active ts v t i p r s c) ∙ map_after (busy w x) (λ y. and_last y v t) (fire_active ts i p s)
    ∙ sym (map_after (λ y. and_last y v t) (busy w x) (fire_active ts i p s))

last_next : {P : Type 0} (ts : Actives P) (v : ℤ) (t : Term P) (i : ℕ) (p : Path) (s : Memories) → IsNextIn ts i p s → IsNextIn (and_last ts v t) i p s
last_next idle v t i p s c = absurd c
last_next (busy w x ts) v t zero p s c = c
last_next (busy w x ts) v t (suc i) p s c = last_next ts v t i p s c

-- an active term does not see a take of the pool
spares_take : {P : Type 0} (body : ℤ → Term P) (ts : Actives P) (i l c n : ℕ) → IsPoolSafe body ts → SparesWork (active_at ts i) (take l c n)
spares_take body ts i l c n f (reads from) x = tt
spares_take body ts i l c n f (writes to by) x = tt
spares_take body ts i l c n f (pushes m d) x = tt
spares_take body ts i l c n f (takes m d) x = absurd (takes_nothing body ts i m d f x)

-- its move after the take of a value
move_after_take : {P : Type 0} (l k : ℕ) (body : ℤ → Term P) (ts : Actives P) (closed : Bool) (i n : ℕ) (p : Path) (s : Memories) (v : ℤ) (b : Bool) (u : Change) (x : Term P) → IsPoolSafe body ts → IsNextIn ts i p s →
    fire (active_at ts i) p s ≡ goes b u x → fire (pool l k body (and_last ts v (body v)) closed) (1 ∷ i ∷ p) (apply (take l k n) s) ≡ goes b u (pool l k body (and_last (put_in ts i x) v (body v)) closed)
move_after_take l k body ts closed i n p s v b u x f c e =
    ap (map_move (λ y. pool l k body y closed)) (
    last_active ts v (body v) i p s (apply (take l k n) s) c
    ∙ ap (map_move (λ y. and_last y v (body v))) (active_move ts i p (apply (take l k n) s) ∙ ap (map_move (put_in ts i)) (fire-apply (active_at ts i) (take l k n) (spares_take body ts i l k n f) p s ∙ e))
    )

next_after_take : {P : Type 0} (body : ℤ → Term P) (ts : Actives P) (i l k n : ℕ) (p : Path) (s : Memories) (v : ℤ) → IsPoolSafe body ts → IsNextIn ts i p s → IsNextIn (and_last ts v (body v)) i p (apply (take l k n) s)
next_after_take body ts i l k n p s v f c =
    last_next ts v (body v) i p (apply (take l k n) s) (active_next ts i p (apply (take l k n) s) (next-unseen (active_at ts i) p s (take l k n) (spares_take body ts i l k n f) (at_active ts i p s c)))

-- what holds of a move that goes
abbrev Goes : {P A : Type 0} → (Bool → Change → A → Type 0) → Move P A → Type 0
Goes T (goes b u y) = T b u y
Goes T (fails b fault) = ⊤
Goes T no_move = ⊤

-- a move at q behind another one at p, made first
abbrev First : {P : Type 0} → Term P → (p q : Path) → Memories → Bool → Change → Term P → Bool → Change → Term P → Type 0
First {P} t p q s b u y c v z =
    (early : Term P) × (last : Term P) × (fire t q s ≡ goes c v early) × (finished early ≡ false) × (fire early p (apply v s) ≡ goes b u last) × AreTermsAlike z last
    × AreStacksAlike (apply v (apply u s)) (apply u (apply v s)) × IsNext early p (apply v s)

-- the move of an active term, and then a take
pub square_take : {P : Type 0} (l k : ℕ) (body : ℤ → Term P) (ts : Actives P) (closed : Bool) (i n : ℕ) (p q : Path) (s : Memories) → IsPoolSafe body ts →
    IsNext (pool l k body ts closed) (1 ∷ i ∷ p) s → IsNext (pool l k body ts closed) (0 ∷ n ∷ q) s → Square fire IsNext AreTermsAlike finished (pool l k body ts closed) (1 ∷ i ∷ p) (0 ∷ n ∷ q) s
square_take {P} l k body ts closed i n p q s f c d = λ b u y e.
    let v : ℤ = d.2.0 in
    let one = moved_part (λ x. pool l k body (put_in ts i x) closed) (fire (active_at ts i) p s) b u y (sym (pool_move l k body ts closed i p s) ∙ e) in
    let none = takes_none (Touches (active_at ts i)) (λ l' c' x. takes_nothing body ts i l' c' f x) u (changes-touched (active_at ts i) p s b u one.0 one.1) in
    let there = still_waits u none l k s n v d.2.1 in
    let last : Term P = pool l k body (and_last (put_in ts i one.0) v (body v)) closed in
    let taken : fire y (0 ∷ n ∷ q) (apply u s) ≡ goes false (take l k n) last =
    ap (λ x. fire x (0 ∷ n ∷ q) (apply u s)) (sym one.2) ∙ ap (take_move l k body (put_in ts i one.0) closed n) there in
    let first : First (pool l k body ts closed) (1 ∷ i ∷ p) (0 ∷ n ∷ q) s b u y false (take l k n) last = (
      pool l k body (and_last ts v (body v)) closed,
      last,
      ap (take_move l k body ts closed n) d.2.1,
      c.0,
      move_after_take l k body ts closed i n p s v b u one.0 f c.1 one.1,
      same_term last,
      alike_by _ _ (either_first u none l k s n v d.2.1),
      (c.0, next_after_take body ts i l k n p s v f c.1),
    ) in (
      subst (λ z. finished z ≡ false) one.2 c.0,
      subst (λ z. IsNext z (0 ∷ n ∷ q) (apply u s)) one.2 (c.0, d.1, (v, there)),
      λ t w z g. subst (Goes (First (pool l k body ts closed) (1 ∷ i ∷ p) (0 ∷ n ∷ q) s b u y)) (sym taken ∙ g) first,
    )

-- a take, and then the move of an active term
pub square_taken : {P : Type 0} (l k : ℕ) (body : ℤ → Term P) (ts : Actives P) (closed : Bool) (n i : ℕ) (p q : Path) (s : Memories) → IsPoolSafe body ts →
    IsNext (pool l k body ts closed) (0 ∷ n ∷ p) s → IsNext (pool l k body ts closed) (1 ∷ i ∷ q) s → Square fire IsNext AreTermsAlike finished (pool l k body ts closed) (0 ∷ n ∷ p) (1 ∷ i ∷ q) s
square_taken {P} l k body ts closed n i p q s f c d = λ b u y e. subst (Goes Rest) (sym taken ∙ e) rest
  where
    v : ℤ
    v = c.2.0

    now : Term P
    now = pool l k body (and_last ts v (body v)) closed

    Rest : Bool → Change → Term P → Type 0
    Rest b u y =
        (finished y ≡ false) × IsNext y (1 ∷ i ∷ q) (apply u s)
        × ((t : Bool) (w : Change) (z : Term P) → fire y (1 ∷ i ∷ q) (apply u s) ≡ goes t w z → First (pool l k body ts closed) (0 ∷ n ∷ p) (1 ∷ i ∷ q) s b u y t w z)

    taken : fire (pool l k body ts closed) (0 ∷ n ∷ p) s ≡ goes false (take l k n) now
    taken = ap (take_move l k body ts closed n) c.2.1

    inside : (t : Bool) (w : Change) (z : Term P) → fire now (1 ∷ i ∷ q) (apply (take l k n) s) ≡ goes t w z → First (pool l k body ts closed) (0 ∷ n ∷ p) (1 ∷ i ∷ q) s false (take l k n) now t w z
    inside t w z g =
        let go : fire now (1 ∷ i ∷ q) (apply (take l k n) s) ≡ map_move (λ x. pool l k body (and_last (put_in ts i x) v (body v)) closed) (fire (active_at ts i) q s) =
        ap (map_move (λ y. pool l k body y closed)) (
        last_active ts v (body v) i q s (apply (take l k n) s) d.1
        ∙ ap (map_move (λ y. and_last y v (body v))) (active_move ts i q (apply (take l k n) s) ∙ ap (map_move (put_in ts i)) (fire-apply (active_at ts i) (take l k n) (spares_take body ts i l k n f) q s))
        )
        ∙ ap (map_move (λ y. pool l k body y closed)) (map_after (λ y. and_last y v (body v)) (put_in ts i) (fire (active_at ts i) q s))
        ∙ map_after (λ y. pool l k body y closed) (λ x. and_last (put_in ts i x) v (body v)) (fire (active_at ts i) q s) in
        let two = moved_part (λ x. pool l k body (and_last (put_in ts i x) v (body v)) closed) (fire (active_at ts i) q s) t w z (sym go ∙ g) in
        let none = takes_none (Touches (active_at ts i)) (λ l' c' x. takes_nothing body ts i l' c' f x) w (changes-touched (active_at ts i) q s t w two.0 two.1) in
        let there = still_waits w none l k s n v c.2.1 in (
          pool l k body (put_in ts i two.0) closed,
          z,
          pool_move l k body ts closed i q s ∙ ap (map_move (λ x. pool l k body (put_in ts i x) closed)) two.1,
          c.0,
          ap (take_move l k body (put_in ts i two.0) closed n) there ∙ ap (goes false (take l k n)) two.2,
          same_term z,
          alike_by _ _ (sym (either_first w none l k s n v c.2.1)),
          (c.0, c.1, (v, there)),
        )

    rest : Rest false (take l k n) now
    rest = (c.0, (c.0, next_after_take body ts i l k n q s v f d.1), inside)
