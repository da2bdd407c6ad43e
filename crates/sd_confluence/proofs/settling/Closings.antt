-- Closings: pools closed one by one, each as a next move of the work with bags.
use Rattle.std.proofs.Common.{◌≡◌, ℕ, zero, suc, [], ◌∷◌, Option, Some, None, ℤ, Bool, true, false, cond, ◌&&◌, refl, sym, ◌∙◌, ap, subst}
use Rattle.sd_work.specs.Memory.{Memories, waiting}
use Rattle.sd_work.specs.Exit.{first_exit}
use Rattle.sd_work.specs.Residual.{Term, leaf, list, owning, nested, ended, pool, Terms, none, also, Actives, idle, busy, finished, all_finished, none_active, flags_of, is_ready}
use Rattle.sd_work.specs.Moves.{Path}
use Rattle.sd_work.proofs.Flags.{and_false}
use Rattle.std.specs.Ordering.{int_eq}
use Rattle.sd_confluence.specs.Alike.{how_often}
use Rattle.sd_confluence.proofs.bags.Values.{same-refl}
use Rattle.sd_confluence.proofs.bags.BagMemory.{Stack, keep, plain}
use Rattle.sd_confluence.proofs.bags.Works.{group, scope, nest, basin, and_work, is_over, Route, part_number, acting, closing, makes, map_answer, follow, owned_answer, put_active, act, act_at, Can, CanAt, CanHere}
use Rattle.sd_confluence.proofs.image.Images.{frame_of, stack_of, work_of, works_of, active_of, value_at, number_at, named}
use Rattle.sd_confluence.proofs.image.Link.{finished_is, flags_is, same_put}
use Rattle.sd_confluence.proofs.image.NextLinked.{held_image, busy_done, acting_can, can_put}

-- the pool at a place closed: a part's number in each list on the way, in a pool an active term's number
abbrev mutual
  pub close : {P : Type 0} → Term P → Path → Term P
  close (leaf place work) p = leaf place work
  close (list kind before parts) [] = list kind before parts
  close (list kind before parts) (k ∷ p) = list kind before (close_part parts k p)
  close (owning own part) p = owning own (close part p)
  close (nested body exits own state values part) p = nested body exits own state values (close part p)
  close (ended own) p = ended own
  close (pool level container body active closed) [] = pool level container body active true
  close (pool level container body active closed) (k ∷ p) = pool level container body (close_active active k p) closed

  pub close_part : {P : Type 0} → Terms P → ℕ → Path → Terms P
  close_part none k p = none
  close_part (also part parts) zero p = also (close part p) parts
  close_part (also part parts) (suc k) p = also part (close_part parts k p)

  pub close_active : {P : Type 0} → Actives P → ℕ → Path → Actives P
  close_active idle k p = idle
  close_active (busy v part active) zero p = busy v (close part p) active
  close_active (busy v part active) (suc k) p = busy v part (close_active active k p)

-- that the pool at a place may be closed
abbrev mutual
  pub MayClose : {P : Type 0} → Term P → Path → Memories → Type 0
  MayClose (leaf place work) p s = ⊥
  MayClose (list kind before parts) [] s = ⊥
  MayClose (list kind before parts) (k ∷ p) s = (is_ready before (flags_of parts) k ≡ true) × MayClosePart parts k p s
  MayClose (owning own part) p s = MayClose part p (own ∷ s)
  MayClose (nested body exits own state values part) p s = MayClose part p (own ∷ s)
  MayClose (ended own) p s = ⊥
  MayClose (pool level container body active closed) [] s = (closed ≡ false) × (none_active active ≡ true) × (waiting level container s ≡ [])
  MayClose (pool level container body active closed) (k ∷ p) s = (closed ≡ false) × MayCloseActive active k p s

  pub MayClosePart : {P : Type 0} → Terms P → ℕ → Path → Memories → Type 0
  MayClosePart none k p s = ⊥
  MayClosePart (also part parts) zero p s = MayClose part p s
  MayClosePart (also part parts) (suc k) p s = MayClosePart parts k p s

  pub MayCloseActive : {P : Type 0} → Actives P → ℕ → Path → Memories → Type 0
  MayCloseActive idle k p s = ⊥
  MayCloseActive (busy v part active) zero p s = MayClose part p s
  MayCloseActive (busy v part active) (suc k) p s = MayCloseActive active k p s

-- the name of a closing among the moves of the work with bags
abbrev mutual
  pub closing_route : {P : Type 0} → Term P → Path → Route
  closing_route (leaf place work) p = []
  closing_route (list kind before parts) [] = []
  closing_route (list kind before parts) (k ∷ p) = part_number k ∷ closing_part parts k p
  closing_route (owning own part) p = closing_route part p
  closing_route (nested body exits own state values part) p = closing_route part p
  closing_route (ended own) p = []
  closing_route (pool level container body active closed) [] = closing ∷ []
  closing_route (pool level container body active closed) (k ∷ p) = named (value_at active k) (λ v. acting v (number_at active v k) ∷ closing_active active k p)

  pub closing_part : {P : Type 0} → Terms P → ℕ → Path → Route
  closing_part none k p = []
  closing_part (also part parts) zero p = closing_route part p
  closing_part (also part parts) (suc k) p = closing_part parts k p

  pub closing_active : {P : Type 0} → Actives P → ℕ → Path → Route
  closing_active idle k p = []
  closing_active (busy v part active) zero p = closing_route part p
  closing_active (busy v part active) (suc k) p = closing_active active k p

mutual
  -- what may still be closed is not finished
  pub unfinished-closing : {P : Type 0} (t : Term P) (p : Path) (s : Memories) → MayClose t p s → finished t ≡ false
  unfinished-closing (leaf place work) p s c = elim c [ ]
  unfinished-closing (list kind before parts) [] s c = elim c [ ]
  unfinished-closing (list kind before parts) (k ∷ p) s c = unfinished-closing_part parts k p s c.1
  unfinished-closing (owning own part) p s c = unfinished-closing part p (own ∷ s) c
  unfinished-closing (nested body exits own state values part) p s c = refl
  unfinished-closing (ended own) p s c = elim c [ ]
  unfinished-closing (pool level container body active closed) [] s c = c.0
  unfinished-closing (pool level container body active closed) (k ∷ p) s c = c.0

  pub unfinished-closing_part : {P : Type 0} (ts : Terms P) (k : ℕ) (p : Path) (s : Memories) → MayClosePart ts k p s → all_finished ts ≡ false
  unfinished-closing_part none k p s c = elim c [ ]
  unfinished-closing_part (also t ts) zero p s c = ap (λ b. b && all_finished ts) (unfinished-closing t p s c)
  unfinished-closing_part (also t ts) (suc k) p s c = and_false (finished t) (all_finished ts) (unfinished-closing_part ts k p s c)

still_on : {P : Type 0} (t : Term P) (p : Path) (s : Memories) → MayClose t p s → is_over (work_of t) ≡ false
still_on t p s c = sym (finished_is t) ∙ unfinished-closing t p s c

-- the active term that may be closed, and its value
somebody : {P : Type 0} (ts : Actives P) (k : ℕ) (p : Path) (s : Memories) → MayCloseActive ts k p s → (v : ℤ) × (value_at ts k ≡ Some v)
somebody idle k p s c = elim c [ ]
somebody (busy v t ts) zero p s c = (v, refl)
somebody (busy v t ts) (suc k) p s c = somebody ts k p s c

mutual
  -- a closing is a next move
  pub closing-can : {P : Type 0} (t : Term P) (p : Path) (s : Memories) → MayClose t p s → Can (work_of t) (closing_route t p) (stack_of s)
  closing-can (leaf place work) p s c = elim c [ ]
  closing-can (list kind before parts) [] s c = elim c [ ]
  closing-can (list kind before parts) (k ∷ p) s c = (subst (λ bs. is_ready before bs k ≡ true) (flags_is parts) c.0, closing-can_part parts k p s c.1)
  closing-can (owning own part) p s c = closing-can part p (own ∷ s) c
  closing-can (nested body exits own state values part) p s c =
      subst (λ b. CanHere b (closing_route part p) (Can (work_of part) (closing_route part p) (stack_of (own ∷ s)))) (sym (still_on part p (own ∷ s) c)) (closing-can part p (own ∷ s) c)
  closing-can (ended own) p s c = elim c [ ]
  closing-can (pool level container body active closed) [] s c =
      (c.0, refl, busy_done active c.1, λ v. held_image level container v s ∙ ap (λ vs. how_often vs v) c.2)
  closing-can (pool level container body active closed) (k ∷ p) s c =
      let h = somebody active k p s c.1 in
      acting_can level container (λ v. work_of (body v)) (active_of active) closed (value_at active k) (λ v. number_at active v k) (closing_active active k p) (stack_of s) h.0 h.1 c.0 (closing-can_active active k p s h.0 h.1 c.1)

  closing-can_part : {P : Type 0} (ts : Terms P) (k : ℕ) (p : Path) (s : Memories) → MayClosePart ts k p s → CanAt (works_of ts) k (closing_part ts k p) (stack_of s)
  closing-can_part none k p s c = elim c [ ]
  closing-can_part (also t ts) zero p s c = closing-can t p s c
  closing-can_part (also t ts) (suc k) p s c = closing-can_part ts k p s c

  closing-can_active : {P : Type 0} (ts : Actives P) (k : ℕ) (p : Path) (s : Memories) (v : ℤ) → value_at ts k ≡ Some v → MayCloseActive ts k p s → CanAt (active_of ts v) (number_at ts v k) (closing_active ts k p) (stack_of s)
  closing-can_active idle k p s v e c = elim c [ ]
  closing-can_active (busy x t ts) zero p s v e c =
      let h : x ≡ v = cc in
      subst (λ b. CanAt (cond b (and_work (work_of t) (active_of ts v)) (active_of ts v)) 0 (closing_route t p) (stack_of s)) (sym (ap (λ z. int_eq z v) h ∙ same-refl v)) (closing-can t p s c)
  closing-can_active (busy x t ts) (suc k) p s v e c = can_put (int_eq x v) (active_of ts v) (work_of t) (number_at ts v k) (closing_active ts k p) (stack_of s) (closing-can_active ts k p s v e c)

-- the active works of other values stay
others : {P : Type 0} (ts : Actives P) (k : ℕ) (p : Path) (v : ℤ) → value_at ts k ≡ Some v → (w : ℤ) → int_eq v w ≡ false → active_of (close_active ts k p) w ≡ active_of ts w
others idle k p v e w d = refl
others (busy x t ts) zero p v e w d =
    let h : x ≡ v = cc in
    let f : int_eq x w ≡ false = ap (λ y. int_eq y w) h ∙ d in
    ap (λ b. cond b (and_work (work_of (close t p)) (active_of ts w)) (active_of ts w)) f
    ∙ sym (ap (λ b. cond b (and_work (work_of t) (active_of ts w)) (active_of ts w)) f)
others (busy x t ts) (suc k) p v e w d = ap (λ us. cond (int_eq x w) (and_work (work_of t) us) us) (others ts k p v e w d)

pool_acts : {P : Type 0} (l c : ℕ) (body : ℤ → Term P) (active xs : Actives P) (closed : Bool) (o : Option ℤ) (i : ℤ → ℕ) (q : Route) (s : Stack) (v : ℤ) → o ≡ Some v →
    act_at (active_of active v) (i v) q s ≡ makes false keep (active_of xs v) → ((w : ℤ) → int_eq v w ≡ false → active_of xs w ≡ active_of active w) →
    act (work_of (pool l c body active closed)) (named o (λ w. acting w (i w) ∷ q)) s ≡ makes false keep (work_of (pool l c body xs closed))
pool_acts l c body active xs closed None i q s v e a h = cc
pool_acts l c body active xs closed (Some x) i q s v e a h =
    let same : v ≡ x = cc in
    ap (λ w. act (work_of (pool l c body active closed)) (acting w (i w) ∷ q) s) (sym same)
    ∙ ap (map_answer (λ ts. basin l c (λ w. work_of (body w)) (put_active v ts (active_of active)) closed)) a
    ∙ ap (λ ts. makes false keep (basin l c (λ w. work_of (body w)) ts closed)) (sym (same_put active xs v h))

mutual
  -- this move closes the pool, and changes nothing else
  pub closing-acts : {P : Type 0} (t : Term P) (p : Path) (s : Memories) → MayClose t p s → act (work_of t) (closing_route t p) (stack_of s) ≡ makes false keep (work_of (close t p))
  closing-acts (leaf place work) p s c = elim c [ ]
  closing-acts (list kind before parts) [] s c = elim c [ ]
  closing-acts (list kind before parts) (k ∷ p) s c = ap (map_answer (group before)) (closing-acts_part parts k p s c.1)
  closing-acts (owning own part) p s c = ap (owned_answer scope (frame_of own)) (closing-acts part p (own ∷ s) c)
  closing-acts (nested body exits own state values part) p s c =
      λ i. cond (still_on part p (own ∷ s) c i)
      (follow (λ k e. work_of (body k e)) exits (frame_of own) (first_exit (exits state values) (plain (stack_of (own ∷ s)))))
      (owned_answer (λ f t. nest (λ k e. work_of (body k e)) exits f state values t) (frame_of own) (closing-acts part p (own ∷ s) c i))
  closing-acts (ended own) p s c = elim c [ ]
  closing-acts (pool level container body active closed) [] s c = refl
  closing-acts (pool level container body active closed) (k ∷ p) s c =
      let h = somebody active k p s c.1 in
      pool_acts level container body active (close_active active k p) closed (value_at active k) (λ v. number_at active v k) (closing_active active k p) (stack_of s) h.0 h.1
      (closing-acts_active active k p s h.0 h.1 c.1) (others active k p h.0 h.1)

  closing-acts_part : {P : Type 0} (ts : Terms P) (k : ℕ) (p : Path) (s : Memories) → MayClosePart ts k p s → act_at (works_of ts) k (closing_part ts k p) (stack_of s) ≡ makes false keep (works_of (close_part ts k p))
  closing-acts_part none k p s c = elim c [ ]
  closing-acts_part (also t ts) zero p s c = ap (map_answer (λ x. and_work x (works_of ts))) (closing-acts t p s c)
  closing-acts_part (also t ts) (suc k) p s c = ap (map_answer (λ x. and_work (work_of t) x)) (closing-acts_part ts k p s c)

  closing-acts_active : {P : Type 0} (ts : Actives P) (k : ℕ) (p : Path) (s : Memories) (v : ℤ) → value_at ts k ≡ Some v → MayCloseActive ts k p s →
      act_at (active_of ts v) (number_at ts v k) (closing_active ts k p) (stack_of s) ≡ makes false keep (active_of (close_active ts k p) v)
  closing-acts_active idle k p s v e c = elim c [ ]
  closing-acts_active (busy x t ts) zero p s v e c =
      let h : x ≡ v = cc in
      go (int_eq x v) (ap (λ z. int_eq z v) h ∙ same-refl v) (closing-acts t p s c)
    where
      go : (b : Bool) → b ≡ true → act (work_of t) (closing_route t p) (stack_of s) ≡ makes false keep (work_of (close t p)) →
          act_at (cond b (and_work (work_of t) (active_of ts v)) (active_of ts v)) 0 (closing_route t p) (stack_of s) ≡ makes false keep (cond b (and_work (work_of (close t p)) (active_of ts v)) (active_of ts v))
      go true d a = ap (map_answer (λ x. and_work x (active_of ts v))) a
      go false d a = cc
  closing-acts_active (busy x t ts) (suc k) p s v e c = go (int_eq x v) (closing-acts_active ts k p s v e c)
    where
      go : (b : Bool) → act_at (active_of ts v) (number_at ts v k) (closing_active ts k p) (stack_of s) ≡ makes false keep (active_of (close_active ts k p) v) →
          act_at (cond b (and_work (work_of t) (active_of ts v)) (active_of ts v)) (cond b (suc (number_at ts v k)) (number_at ts v k)) (closing_active ts k p) (stack_of s)
          ≡ makes false keep (cond b (and_work (work_of t) (active_of (close_active ts k p) v)) (active_of (close_active ts k p) v))
      go true a = ap (map_answer (λ x. and_work (work_of t) x)) a
      go false a = a

-- k closings lead from one term to another, the memories as they are
abbrev pub Closings : {P : Type 0} → ℕ → Term P → Term P → Memories → Type 0
Closings zero t t' s = t ≡ t'
Closings (suc k) t t' s = (p : Path) × MayClose t p s × Closings k (close t p) t' s
