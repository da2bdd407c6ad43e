-- A next move of a term is one of its image.
use Rattle.std.proofs.Common.{◌≡◌, ℕ, zero, suc, [], ◌∷◌, Option, Some, None, ℤ, Bool, true, false, cond, ◌&&◌, slice_get, slice_index_or, refl, sym, ◌∙◌, ap, subst}
use Rattle.sd_num.specs.declared.width.Width.TheVariants.{W64}
use Rattle.sd_work.specs.Memory.{array, stream, Memory, Memories, values_of, waiting}
use Rattle.sd_work.specs.Residual.{Term, leaf, list, owning, nested, ended, pool, Terms, none, also, Actives, idle, busy, finished, all_finished, none_active, is_ready}
use Rattle.sd_work.specs.Moves.{Path}
use Rattle.sd_work.proofs.Flags.{both, and_false}
use Rattle.std.specs.Ordering.{int_eq}
use Rattle.sd_confluence.specs.Alike.{how_often}
use Rattle.sd_confluence.proofs.bags.Values.{same-refl, waits}
use Rattle.sd_confluence.proofs.bags.BagMemory.{nowhere, nth, count_in, Stack, held}
use Rattle.sd_confluence.proofs.bags.Works.{Work, basin, Works, and_work, is_over, all_over, taking, acting, Route, Can, CanAt, CanHere}
use Rattle.sd_confluence.proofs.image.Images.{frame_of, stack_of, work_of, works_of, active_of, value_at, number_at, named, route_of, route_at, route_in, IsNext, IsNextAt, IsNextIn, IsNextHere}
use Rattle.sd_confluence.proofs.image.Link.{finished_is, flags_is}

held_in : (c : ℕ) (v : ℤ) (m : Memory) → count_in (nth nowhere c (frame_of m)) v ≡ how_often (values_of (slice_index_or m c (stream W64 []))) v
held_in c v [] = refl
held_in zero v (array width elements ∷ m) = refl
held_in zero v (stream width values ∷ m) = refl
held_in (suc c) v (k ∷ m) = held_in c v m

-- a value waits as often in the image as in the stream
pub held_image : (l c : ℕ) (v : ℤ) (s : Memories) → held l c v (stack_of s) ≡ how_often (waiting l c s) v
held_image l c v [] = held_in c v []
held_image zero c v (m ∷ s) = held_in c v m
held_image (suc l) c v (m ∷ s) = held_image l c v s

-- where no term is active, all works of each value are over
pub busy_done : {P : Type 0} (active : Actives P) → none_active active ≡ true → (w : ℤ) → all_over (active_of active w) ≡ true
busy_done idle e w = refl
busy_done (busy v t ts) e w = let h = both (finished t) (none_active ts) e in go (int_eq v w) h.0 (busy_done ts h.1 w)
  where
    go : (b : Bool) → finished t ≡ true → all_over (active_of ts w) ≡ true → all_over (cond b (and_work (work_of t) (active_of ts w)) (active_of ts w)) ≡ true
    go true h r = λ i. (sym (finished_is t) ∙ h) i && r i
    go false h r = r

mutual
  -- where a move is next, something is left to do
  pub next-unfinished : {P : Type 0} (t : Term P) (p : Path) (s : Memories) → IsNext t p s → finished t ≡ false
  next-unfinished (leaf place work) p s c = c.0
  next-unfinished (list kind before parts) [] s c = elim c [ ]
  next-unfinished (list kind before parts) (k ∷ p) s c = next-unfinished_at parts k p s c.1
  next-unfinished (owning own part) p s c = next-unfinished part p (own ∷ s) c
  next-unfinished (nested body exits own state values part) p s c = refl
  next-unfinished (ended own) p s c = elim c [ ]
  next-unfinished (pool l c body active closed) [] s d = elim d [ ]
  next-unfinished (pool l c body active closed) (zero ∷ []) s d = elim d [ ]
  next-unfinished (pool l c body active closed) (zero ∷ k ∷ p) s d = d.0
  next-unfinished (pool l c body active closed) (suc zero ∷ []) s d = elim d [ ]
  next-unfinished (pool l c body active closed) (suc zero ∷ k ∷ p) s d = d.0
  next-unfinished (pool l c body active closed) (suc (suc j) ∷ p) s d = elim d [ ]

  next-unfinished_at : {P : Type 0} (ts : Terms P) (k : ℕ) (p : Path) (s : Memories) → IsNextAt ts k p s → all_finished ts ≡ false
  next-unfinished_at none k p s c = elim c [ ]
  next-unfinished_at (also t ts) zero p s c = ap (λ b. b && all_finished ts) (next-unfinished t p s c)
  next-unfinished_at (also t ts) (suc k) p s c = and_false (finished t) (all_finished ts) (next-unfinished_at ts k p s c)

can_here_is : (b c : Bool) → b ≡ c → (p : Path) (q : Route) (C D : Type 0) → (C → D) → IsNextHere b p C → CanHere c (cond b [] q) D
can_here_is true true e p q C D f h = refl
can_here_is true false e p q C D f h = cc
can_here_is false true e p q C D f h = cc
can_here_is false false e p q C D f h = f h

-- a move of a work is one of a list in which it may have one more before it
pub can_put : {P : Type 0} (b : Bool) (us : Works P) (t : Work P) (i : ℕ) (p : Route) (s : Stack) → CanAt us i p s → CanAt (cond b (and_work t us) us) (cond b (suc i) i) p s
can_put true us t i p s c = c
can_put false us t i p s c = c

-- the active term at k
somebody : {P : Type 0} (ts : Actives P) (k : ℕ) (p : Path) (s : Memories) → IsNextIn ts k p s → (v : ℤ) × (value_at ts k ≡ Some v)
somebody idle k p s c = elim c [ ]
somebody (busy v t ts) zero p s c = (v, refl)
somebody (busy v t ts) (suc k) p s c = somebody ts k p s c

-- where an active work of a value can move, so can its pool
pub acting_can : {P : Type 0} (l c : ℕ) (body : ℤ → Work P) (active : ℤ → Works P) (closed : Bool) (o : Option ℤ) (i : ℤ → ℕ) (q : Route) (s : Stack) (v : ℤ) → o ≡ Some v → closed ≡ false → CanAt (active v) (i v) q s →
    Can (basin l c body active closed) (named o (λ w. acting w (i w) ∷ q)) s
acting_can l c body active closed None i q s v e f a = cc
acting_can l c body active closed (Some w) i q s v e f a = let h : v ≡ w = cc in (f, subst (λ x. CanAt (active x) (i x) q s) h a)

taking_can : {P : Type 0} (l c : ℕ) (body : ℤ → Work P) (active : Actives P) (closed : Bool) (s : Memories) (o : Option ℤ) (v : ℤ) → o ≡ Some v → closed ≡ false → (n : ℕ) → held l c v (stack_of s) ≡ suc n →
    Can (basin l c body (active_of active) closed) (named o (λ w. taking w ∷ [])) (stack_of s)
taking_can l c body active closed s None v e f n h = cc
taking_can l c body active closed s (Some w) v e f n h = let g : v ≡ w = cc in (f, refl, subst (λ x. (m : ℕ) × (held l c x (stack_of s) ≡ suc m)) g (n, h))

mutual
  -- a next move of a term is a next move of its image
  pub can_linked : {P : Type 0} (t : Term P) (p : Path) (s : Memories) → IsNext t p s → Can (work_of t) (route_of t p s) (stack_of s)
  can_linked (leaf place work) p s c = (c.0, refl)
  can_linked (list kind before parts) [] s c = elim c [ ]
  can_linked (list kind before parts) (k ∷ p) s c = (subst (λ bs. is_ready before bs k ≡ true) (flags_is parts) c.0, can_linked_at parts k p s c.1)
  can_linked (owning own part) p s c = can_linked part p (own ∷ s) c
  can_linked (nested body exits own state values t) p s c =
      can_here_is (finished t) (is_over (work_of t)) (finished_is t) p (route_of t p (own ∷ s)) (IsNext t p (own ∷ s)) (Can (work_of t) (cond (finished t) [] (route_of t p (own ∷ s))) (stack_of (own ∷ s)))
      (λ d. subst (λ b. Can (work_of t) (cond b [] (route_of t p (own ∷ s))) (stack_of (own ∷ s))) (sym (next-unfinished t p (own ∷ s) d)) (can_linked t p (own ∷ s) d)) c
  can_linked (ended own) p s c = elim c [ ]
  can_linked (pool l c body active closed) [] s d = elim d [ ]
  can_linked (pool l c body active closed) (zero ∷ []) s d = elim d [ ]
  can_linked (pool l c body active closed) (zero ∷ k ∷ p) s d =
      let w = waits (waiting l c s) k d.2.0 d.2.1 in
      taking_can l c (λ v. work_of (body v)) active closed s (slice_get (waiting l c s) k) d.2.0 d.2.1 d.0 w.0 (held_image l c d.2.0 s ∙ w.1)
  can_linked (pool l c body active closed) (suc zero ∷ []) s d = elim d [ ]
  can_linked (pool l c body active closed) (suc zero ∷ k ∷ p) s d =
      let h = somebody active k p s d.1 in
      acting_can l c (λ v. work_of (body v)) (active_of active) closed (value_at active k) (λ v. number_at active v k) (route_in active k p s) (stack_of s) h.0 h.1 d.0 (can_linked_in active k p s h.0 h.1 d.1)
  can_linked (pool l c body active closed) (suc (suc j) ∷ p) s d = elim d [ ]

  -- the same of the part k
  pub can_linked_at : {P : Type 0} (ts : Terms P) (k : ℕ) (p : Path) (s : Memories) → IsNextAt ts k p s → CanAt (works_of ts) k (route_at ts k p s) (stack_of s)
  can_linked_at none k p s c = elim c [ ]
  can_linked_at (also t ts) zero p s c = can_linked t p s c
  can_linked_at (also t ts) (suc k) p s c = can_linked_at ts k p s c

  -- the same of the active term k, among the works of its value
  pub can_linked_in : {P : Type 0} (ts : Actives P) (k : ℕ) (p : Path) (s : Memories) (v : ℤ) → value_at ts k ≡ Some v → IsNextIn ts k p s → CanAt (active_of ts v) (number_at ts v k) (route_in ts k p s) (stack_of s)
  can_linked_in idle k p s v e c = elim c [ ]
  can_linked_in (busy x t ts) zero p s v e c =
      let h : x ≡ v = cc in
      subst (λ b. CanAt (cond b (and_work (work_of t) (active_of ts v)) (active_of ts v)) 0 (route_of t p s) (stack_of s)) (sym (ap (λ z. int_eq z v) h ∙ same-refl v)) (can_linked t p s c)
  can_linked_in (busy x t ts) (suc k) p s v e c = can_put (int_eq x v) (active_of ts v) (work_of t) (number_at ts v k) (route_in ts k p s) (stack_of s) (can_linked_in ts k p s v e c)
