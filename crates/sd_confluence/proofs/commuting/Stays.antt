-- Safe work stays safe, and a move that is next stays next until it is made.
use Rattle.std.proofs.Common.{◌≡◌, ℕ, zero, suc, pred, List, [], ◌∷◌, Option, Some, None, Result, Ok, Err, ℤ, Bool, true, false, cond, refl, sym, ◌∙◌, ap, subst, inl, inr, ◌⊎◌}
use Rattle.std.specs.Bool.{⊤}
use Rattle.sd_work.specs.LeafMove.{leaf_move}
use Rattle.sd_work.specs.Move.{Fault}
use Rattle.sd_work.specs.Exit.{Values, Exit, first_exit}
use Rattle.sd_work.specs.Touch.{Touch, reads, writes, pushes, takes, AreCompatible}
use Rattle.sd_work.proofs.Absorbing.{Below, ready_up}
use Rattle.std.specs.Ordering.{int_eq}
use Rattle.sd_confluence.proofs.bags.Values.{same-true, same-false}
use Rattle.sd_confluence.proofs.bags.BagMemory.{Frame, Stack, Update, keep, put, add, remove, updated, held, plain}
use Rattle.sd_confluence.proofs.bags.Works.{Work, thread, group, scope, nest, over, basin, Works, no_works, and_work, is_over, overs, part_number, taking, acting, closing, Route, leaf_answer, follow, owned_answer, at_last, put_active, act, act_at, Can, CanAt, CanHere}
use Rattle.sd_confluence.proofs.bags.WorkTouches.{IsUnseen, WorkTouches, SomeWork, AllCompatible, work_at, Safe, AllSafe, safe_put}
use Rattle.sd_confluence.proofs.bags.BagChanges.{held_kept, held_other, held_up}
use Rattle.sd_confluence.proofs.commuting.Stable.{Covered, part_touches, can_kept, can_kept_at}
use Rattle.sd_confluence.proofs.commuting.Within.{last_touches, put_touches, Gives, gives_map, gives_more, gives_cond, Within, WithinParts, within, within_at}
use Rattle.sd_confluence.proofs.commuting.NextMoves.{gives_any, two, gives_owned, gives_moved, can_here, can_unfinished, can_unfinished_at, avoids_of, clear, flags_rise}

-- what the body of a pool may touch
abbrev pub Bodies : {P : Type 0} → (ℤ → Work P) → (ℤ → Works P) → Touch → Type 0
Bodies body active a = ((v : ℤ) × SomeWork (active v) a) ⊎ ((v : ℤ) × WorkTouches (body v) a)

safe_follow : {P : Type 0} (body : ℕ → Values → Work P) (exits : ℕ → Values → List (Exit P)) (own : Frame) (r : Result (Option (Exit P)) (Fault P)) → ((k : ℕ) (e : Values) → Safe (body k e)) → Gives (λ b u t. Safe t) (follow body exits own r)
safe_follow body exits own (Err f) h = tt
safe_follow body exits own (Ok None) h = tt
safe_follow body exits own (Ok (Some e)) h = (h e.state e.values, h)

safe_last : {P : Type 0} (us : Works P) (t : Work P) → AllSafe us → Safe t → AllSafe (at_last us t)
safe_last no_works t a s = (s, tt)
safe_last (and_work u us) t a s = (a.0, safe_last us t a.1 s)

taken_bodies : {P : Type 0} (v : ℤ) (body : ℤ → Work P) (active : ℤ → Works P) (a : Touch) → Bodies body (put_active v (at_last (active v) (body v)) active) a → Bodies body active a
taken_bodies v body active a (inl x) =
    elim (put_touches (int_eq v x.0) (at_last (active v) (body v)) (active x.0) a x.1) [
      | inl y ↦ elim (last_touches (active v) (body v) a y) [ inl z ↦ inl (v, z) | inr z ↦ inr (v, z) ]
      | inr y ↦ inl (x.0, y)
    ]
taken_bodies v body active a (inr x) = inr x

acted_bodies : {P : Type 0} (v : ℤ) (us : Works P) (body : ℤ → Work P) (active : ℤ → Works P) → ((a : Touch) → SomeWork us a → SomeWork (active v) a) → (a : Touch) → Bodies body (put_active v us active) a → Bodies body active a
acted_bodies v us body active g a (inl x) = elim (put_touches (int_eq v x.0) us (active x.0) a x.1) [ inl y ↦ inl (v, g a y) | inr y ↦ inl (x.0, y) ]
acted_bodies v us body active g a (inr x) = inr x

mutual
  -- a move leaves safe work safe
  pub safe_kept : {P : Type 0} (t : Work P) (p : Route) (s : Stack) → Safe t → Gives (λ b u t'. Safe t') (act t p s)
  safe_kept (thread place w) p s h = gives_map (thread place) (λ b u x. ⊤) (λ b u t. Safe t) (λ b u x g. tt) (leaf_answer (leaf_move place w (plain s))) (gives_any (leaf_answer (leaf_move place w (plain s))))
  safe_kept (group before parts) [] s h = tt
  safe_kept (group before parts) (taking v ∷ p) s h = tt
  safe_kept (group before parts) (acting v k ∷ p) s h = tt
  safe_kept (group before parts) (closing ∷ p) s h = tt
  safe_kept (group before parts) (part_number k ∷ p) s h =
      gives_map (group before) (λ b u us. AllSafe us × WithinParts parts k u us) (λ b u t. Safe t)
      (λ b u us g. (g.0, λ i j l e x y tx ty. h.1 i j l e x y (g.1.2 i x tx) (g.1.2 j y ty))) (act_at parts k p s)
      (two (λ b u us. AllSafe us) (λ b u us. WithinParts parts k u us) (act_at parts k p s) (safe_kept_at parts k p s h.0) (within_at parts k p s))
  safe_kept (scope own inside) p s h = gives_owned scope own Safe Safe (λ f t x. x) (act inside p (own ∷ s)) (safe_kept inside p (own ∷ s) h)
  safe_kept (nest body exits own state values inside) p s h =
      gives_cond (λ b u t. Safe t) (is_over inside) _ _ (safe_follow body exits own (first_exit (exits state values) (plain (own ∷ s))) h.1)
      (gives_owned (λ f t. nest body exits f state values t) own Safe Safe (λ f t x. (x, h.1)) (act inside p (own ∷ s)) (safe_kept inside p (own ∷ s) h.0))
  safe_kept (over own) p s h = tt
  safe_kept (basin l c body active closed) [] s h = tt
  safe_kept (basin l c body active closed) (part_number k ∷ p) s h = tt
  safe_kept (basin l c body active closed) (taking v ∷ p) s h = (
    λ w. safe_put (int_eq v w) (at_last (active v) (body v)) (active w) (safe_last (active v) (body v) (h.0 v) (h.1 v)) (h.0 w),
    h.1,
    λ a b x y. h.2 a b (taken_bodies v body active a x) (taken_bodies v body active b y),
  )
  safe_kept (basin l c body active closed) (acting v k ∷ p) s h =
      gives_map (λ ts. basin l c body (put_active v ts active) closed) (λ b u us. AllSafe us × WithinParts (active v) k u us) (λ b u t. Safe t)
      (λ b u us g. (λ w. safe_put (int_eq v w) us (active w) g.0 (h.0 w), h.1, λ a b' x y. h.2 a b' (acted_bodies v us body active g.1.1 a x) (acted_bodies v us body active g.1.1 b' y)))
      (act_at (active v) k p s)
      (two (λ b u us. AllSafe us) (λ b u us. WithinParts (active v) k u us) (act_at (active v) k p s) (safe_kept_at (active v) k p s (h.0 v)) (within_at (active v) k p s))
  safe_kept (basin l c body active closed) (closing ∷ p) s h = h

  -- the same of a part
  pub safe_kept_at : {P : Type 0} (ts : Works P) (k : ℕ) (p : Route) (s : Stack) → AllSafe ts → Gives (λ b u us. AllSafe us) (act_at ts k p s)
  safe_kept_at no_works k p s h = tt
  safe_kept_at (and_work t ts) zero p s h = gives_map (λ x. and_work x ts) (λ b u x. Safe x) (λ b u x. AllSafe x) (λ b u x g. (g, h.1)) (act t p s) (safe_kept t p s h.0)
  safe_kept_at (and_work t ts) (suc k) p s h = gives_map (λ x. and_work t x) (λ b u x. AllSafe x) (λ b u x. AllSafe x) (λ b u x g. (h.0, g)) (act_at ts k p s) (safe_kept_at ts k p s h.1)

-- what a body touches leaves how often a value waits, or adds to it
body_leaves : (l c : ℕ) (w : ℤ) (u : Update) (T : Touch → Type 0) → Covered u T → ((a : Touch) → T a → AreCompatible a a) → (s : Stack) (n : ℕ) → held l c w s ≡ suc n → (j : ℕ) × (held l c w (updated u s) ≡ suc j)
body_leaves l c w keep T h a s n e = (n, e)
body_leaves l c w (put to by v) T h a s n e = (n, held_kept l c w (put to by v) tt s ∙ e)
body_leaves l c w (add m d v) T h a s n e = held_up l c m d v w s n e
body_leaves l c w (remove m d v) T h a s n e = absurd (a (takes m d) h refl refl)

-- a body does not see what its pool takes
pub body_unseen : (l c : ℕ) (b : Touch) → AreCompatible b b → IsUnseen (takes l c) b
body_unseen l c (reads r) h = tt
body_unseen l c (writes r by) h = tt
body_unseen l c (pushes m d) h = tt
body_unseen l c (takes m d) h = λ e e'. h refl refl

can_last : {P : Type 0} (us : Works P) (t : Work P) (k : ℕ) (p : Route) (s : Stack) → CanAt us k p s → CanAt (at_last us t) k p s
can_last no_works t k p s c = elim c [ ]
can_last (and_work u us) t zero p s c = c
can_last (and_work u us) t (suc k) p s c = can_last us t k p s c

-- the two cases of the active works of a value where some were put
put_case : {P : Type 0} (b : Bool) (ts us : Works P) (R : Works P → Type 0) → (b ≡ true → R ts) → (b ≡ false → R us) → R (cond b ts us)
put_case true ts us R f g = f refl
put_case false ts us R f g = g refl

-- an active work touches what the pool's works may touch
pub in_part : {P : Type 0} (body : ℤ → Work P) (active : ℤ → Works P) (v : ℤ) (k : ℕ) (a : Touch) → WorkTouches (work_at (active v) k) a → Bodies body active a
in_part body active v k a x = inl (v, part_touches (active v) k a x)

stays_nest : {P : Type 0} (b : Bool) (body : ℕ → Values → Work P) (exits : ℕ → Values → List (Exit P)) (own : Frame) (state : ℕ) (values : Values) (inside : Work P) (p q : Route) (s : Stack) →
    CanHere b p (Can inside p (own ∷ s)) → CanHere b q (Can inside q (own ∷ s)) → (p ≡ q → ⊥) →
    (Can inside p (own ∷ s) → Can inside q (own ∷ s) → Gives (λ b u t. Can t q (updated u (own ∷ s))) (act inside p (own ∷ s))) →
    Gives (λ b u t'. Can t' q (updated u s)) (cond b (follow body exits own (first_exit (exits state values) (plain (own ∷ s)))) (owned_answer (λ f t. nest body exits f state values t) own (act inside p (own ∷ s))))
stays_nest true body exits own state values inside p q s c d n h = absurd (n (c ∙ sym d))
stays_nest false body exits own state values inside p q s c d n h =
    gives_moved (λ f t. nest body exits f state values t) own q s
    (λ f t s' x. can_here (is_over t) q (Can t q (f ∷ s')) (can_unfinished t q (f ∷ s') x) x) (act inside p (own ∷ s)) (h c d)

-- what a move changes its work may touch
pub covered_of : {P : Type 0} (t : Work P) (p : Route) (s : Stack) → Gives (λ b u x. Covered u (WorkTouches t)) (act t p s)
covered_of t p s = gives_more (λ b u z. Within (WorkTouches t) u (WorkTouches z)) (λ b u z. Covered u (WorkTouches t)) (λ b u z g. g.0) (act t p s) (within t p s)

-- what a move of a part changes the part may touch
pub covered_at : {P : Type 0} (ts : Works P) (k : ℕ) (p : Route) (s : Stack) → Gives (λ b u x. Covered u (WorkTouches (work_at ts k))) (act_at ts k p s)
covered_at ts k p s = gives_more (λ b u z. WithinParts ts k u z) (λ b u z. Covered u (WorkTouches (work_at ts k))) (λ b u z g. g.0) (act_at ts k p s) (within_at ts k p s)

no_taking : (l c : ℕ) (s : Stack) (v : ℤ) (n : ℕ) → held l c v s ≡ suc n → held l c v s ≡ 0 → ⊥
no_taking l c s v n e f = let h : suc n ≡ 0 = sym e ∙ f in cc

-- q stays next in a pool after an active work has moved
stays_acting : {P : Type 0} (l c : ℕ) (body : ℤ → Work P) (active : ℤ → Works P) (closed : Bool) (v : ℤ) (i : ℕ) (p q : Route) (s : Stack) → Safe (basin l c body active closed) →
    closed ≡ false → CanAt (active v) i p s → Can (basin l c body active closed) q s → ((acting v i ∷ p) ≡ q → ⊥) →
    ((j : ℕ) (r : Route) → CanAt (active v) j r s → (i ≡ j → p ≡ r → ⊥) → ((i ≡ j → ⊥) → AllCompatible (work_at (active v) i) (work_at (active v) j)) → Gives (λ b u us. CanAt us j r (updated u s)) (act_at (active v) i p s)) →
    Gives (λ b u us. Can (basin l c body (put_active v us active) closed) q (updated u s)) (act_at (active v) i p s)
stays_acting l c body active closed v i p [] s h o a d n ih = elim d [ ]
stays_acting l c body active closed v i p (part_number k ∷ r) s h o a d n ih = elim d [ ]
stays_acting l c body active closed v i p (taking w ∷ r) s h o a d n ih =
    gives_more (λ b u us. Covered u (WorkTouches (work_at (active v) i))) (λ b u us. Can (basin l c body (put_active v us active) closed) (taking w ∷ r) (updated u s))
    (λ b u us g. (d.0, d.1, body_leaves l c w u (WorkTouches (work_at (active v) i)) g (λ x tx. h.2 x x (in_part body active v i x tx) (in_part body active v i x tx)) s d.2.0 d.2.1))
    (act_at (active v) i p s) (covered_at (active v) i p s)
stays_acting l c body active closed v i p (acting w j ∷ r) s h o a d n ih = go (int_eq v w) refl
  where
    same_list : v ≡ w → Gives (λ b u us. CanAt us j r (updated u s)) (act_at (active v) i p s)
    same_list e =
        ih j r (subst (λ x. CanAt (active x) j r s) (sym e) d.1) (λ f g. n (λ k. acting (e k) (f k) ∷ g k))
        (λ m x y tx ty. h.2 x y (in_part body active v i x tx) (in_part body active v j y ty))

    go : (b : Bool) → int_eq v w ≡ b → Gives (λ b u us. Can (basin l c body (put_active v us active) closed) (acting w j ∷ r) (updated u s)) (act_at (active v) i p s)
    go true e =
        gives_more (λ b u us. CanAt us j r (updated u s)) (λ b u us. Can (basin l c body (put_active v us active) closed) (acting w j ∷ r) (updated u s))
        (λ b u us g. (d.0, subst (λ x. CanAt (cond x us (active w)) j r (updated u s)) (sym e) g)) (act_at (active v) i p s) (same_list (same-true v w e))
    go false e =
        gives_more (λ b u us. Covered u (WorkTouches (work_at (active v) i))) (λ b u us. Can (basin l c body (put_active v us active) closed) (acting w j ∷ r) (updated u s))
        (λ b u us g. (
          d.0,
          subst (λ x. CanAt (cond x us (active w)) j r (updated u s)) (sym e)
              (can_kept_at (active w) j r u s (avoids_of u (WorkTouches (work_at (active v) i)) (WorkTouches (work_at (active w) j)) g (λ x y tx ty. h.2 x y (in_part body active v i x tx) (in_part body active w j y ty))) d.1),
        ))
        (act_at (active v) i p s) (covered_at (active v) i p s)
stays_acting l c body active closed v i p (closing ∷ r) s h o a d n ih =
    absurd (let bad : true ≡ false = sym (d.2 v) ∙ can_unfinished_at (active v) i p s a in cc)

-- q stays next in a pool after it has taken
stays_taking : {P : Type 0} (l c : ℕ) (body : ℤ → Work P) (active : ℤ → Works P) (closed : Bool) (v : ℤ) (p q : Route) (s : Stack) → Safe (basin l c body active closed) →
    Can (basin l c body active closed) (taking v ∷ p) s → Can (basin l c body active closed) q s → ((taking v ∷ p) ≡ q → ⊥) →
    Can (basin l c body (put_active v (at_last (active v) (body v)) active) closed) q (updated (remove l c v) s)
stays_taking l c body active closed v p [] s h a d n = elim d [ ]
stays_taking l c body active closed v p (part_number k ∷ r) s h a d n = elim d [ ]
stays_taking l c body active closed v p (taking w ∷ r) s h a d n =
    let other : int_eq v w ≡ false = same-false v w (λ e. n (λ k. taking (e k) ∷ (a.1 ∙ sym d.1) k)) in
    (d.0, d.1, (d.2.0, held_other l c l c v w other s ∙ d.2.1))
stays_taking l c body active closed v p (acting w j ∷ r) s h a d n =
    let kept : CanAt (active w) j r (updated (remove l c v) s) =
    can_kept_at (active w) j r (remove l c v) s (λ b tb. body_unseen l c b (h.2 b b (in_part body active w j b tb) (in_part body active w j b tb))) d.1 in (
      d.0,
      put_case (int_eq v w) (at_last (active v) (body v)) (active w) (λ us. CanAt us j r (updated (remove l c v) s))
          (λ e. subst (λ x. CanAt (at_last (active x) (body x)) j r (updated (remove l c v) s)) (sym (same-true v w e)) (can_last (active w) (body w) j r (updated (remove l c v) s) kept)) (λ e. kept),
    )
stays_taking l c body active closed v p (closing ∷ r) s h a d n = absurd (no_taking l c s v a.2.0 a.2.1 (d.3 v))

-- where a pool may close it has no other move
pub stays_closing : {P : Type 0} (l c : ℕ) (body : ℤ → Work P) (active : ℤ → Works P) (closed : Bool) (p q : Route) (s : Stack) →
    Can (basin l c body active closed) (closing ∷ p) s → Can (basin l c body active closed) q s → ((closing ∷ p) ≡ q → ⊥) → ⊥
stays_closing l c body active closed p [] s a d n = d
stays_closing l c body active closed p (part_number k ∷ r) s a d n = d
stays_closing l c body active closed p (taking w ∷ r) s a d n = no_taking l c s w d.2.0 d.2.1 (a.3 w)
stays_closing l c body active closed p (acting w j ∷ r) s a d n = let bad : true ≡ false = sym (a.2 w) ∙ can_unfinished_at (active w) j r s d.1 in cc
stays_closing l c body active closed p (closing ∷ r) s a d n = n (λ k. closing ∷ (a.1 ∙ sym d.1) k)

mutual
  -- of two next moves of safe work the second stays next after the first
  pub stays : {P : Type 0} (t : Work P) (p q : Route) (s : Stack) → Safe t → Can t p s → Can t q s → (p ≡ q → ⊥) → Gives (λ b u t'. Can t' q (updated u s)) (act t p s)
  stays (thread place w) p q s h c d n = absurd (n (c.1 ∙ sym d.1))
  stays (group before parts) [] q s h c d n = elim c [ ]
  stays (group before parts) (taking v ∷ p) q s h c d n = elim c [ ]
  stays (group before parts) (acting v k ∷ p) q s h c d n = elim c [ ]
  stays (group before parts) (closing ∷ p) q s h c d n = elim c [ ]
  stays (group before parts) (part_number k ∷ p) [] s h c d n = elim d [ ]
  stays (group before parts) (part_number k ∷ p) (taking v ∷ q) s h c d n = elim d [ ]
  stays (group before parts) (part_number k ∷ p) (acting v l ∷ q) s h c d n = elim d [ ]
  stays (group before parts) (part_number k ∷ p) (closing ∷ q) s h c d n = elim d [ ]
  stays (group before parts) (part_number k ∷ p) (part_number l ∷ q) s h c d n =
      gives_map (group before) (λ b u us. Below (overs parts) (overs us) × CanAt us l q (updated u s)) (λ b u t'. Can t' (part_number l ∷ q) (updated u s))
      (λ b u us g. (ready_up before 0 (overs parts) (overs us) l g.0 d.0, g.1)) (act_at parts k p s)
      (two (λ b u us. Below (overs parts) (overs us)) (λ b u us. CanAt us l q (updated u s)) (act_at parts k p s) (flags_rise parts k p s c.1)
      (stays_at parts k p l q s h.0 c.1 d.1 (λ e e'. n (λ i. part_number (e i) ∷ e' i)) (clear before parts k p l q s h.1 c d)))
  stays (scope own inside) p q s h c d n =
      gives_moved scope own q s (λ f t s' x. x) (act inside p (own ∷ s)) (stays inside p q (own ∷ s) h c d n)
  stays (nest body exits own state values inside) p q s h c d n =
      stays_nest (is_over inside) body exits own state values inside p q s c d n (λ c' d'. stays inside p q (own ∷ s) h.0 c' d' n)
  stays (over own) p q s h c d n = elim c [ ]
  stays (basin l c body active closed) [] q s h a d n = elim a [ ]
  stays (basin l c body active closed) (part_number k ∷ p) q s h a d n = elim a [ ]
  stays (basin l c body active closed) (taking v ∷ p) q s h a d n = stays_taking l c body active closed v p q s h a d n
  stays (basin l c body active closed) (acting v i ∷ p) q s h a d n =
      gives_map (λ us. basin l c body (put_active v us active) closed) (λ b u us. Can (basin l c body (put_active v us active) closed) q (updated u s)) _ (λ b u us g. g) (act_at (active v) i p s)
      (stays_acting l c body active closed v i p q s h a.0 a.1 d n (λ j r b m z. stays_at (active v) i p j r s (h.0 v) a.1 b m z))
  stays (basin l c body active closed) (closing ∷ p) q s h a d n = absurd (stays_closing l c body active closed p q s a d n)

  -- the same of two parts, or of two moves of one part
  pub stays_at : {P : Type 0} (ts : Works P) (k : ℕ) (p : Route) (l : ℕ) (q : Route) (s : Stack) → AllSafe ts → CanAt ts k p s → CanAt ts l q s → (k ≡ l → p ≡ q → ⊥) → ((k ≡ l → ⊥) → AllCompatible (work_at ts k) (work_at ts l)) → Gives (λ b u us. CanAt us l q (updated u s)) (act_at ts k p s)
  stays_at no_works k p l q s h c d n a = tt
  stays_at (and_work t ts) zero p zero q s h c d n a = gives_map (λ x. and_work x ts) (λ b u t'. Can t' q (updated u s)) _ (λ b u x g. g) (act t p s) (stays t p q s h.0 c d (n refl))
  stays_at (and_work t ts) zero p (suc l) q s h c d n a =
      gives_map (λ x. and_work x ts) (λ b u t'. Covered u (WorkTouches t)) _ (λ b u x g. can_kept_at ts l q u s (avoids_of u (WorkTouches t) (WorkTouches (work_at ts l)) g (a (λ e. cc))) d) (act t p s) (covered_of t p s)
  stays_at (and_work t ts) (suc k) p zero q s h c d n a =
      gives_map (λ x. and_work t x) (λ b u t'. Covered u (WorkTouches (work_at ts k))) _ (λ b u x g. can_kept t q u s (avoids_of u (WorkTouches (work_at ts k)) (WorkTouches t) g (a (λ e. cc))) d) (act_at ts k p s) (covered_at ts k p s)
  stays_at (and_work t ts) (suc k) p (suc l) q s h c d n a =
      gives_map (λ x. and_work t x) (λ b u us. CanAt us l q (updated u s)) _ (λ b u x g. g) (act_at ts k p s) (stays_at ts k p l q s h.1 c d (λ e. n (ap suc e)) (λ m. a (λ e. m (ap pred e))))
