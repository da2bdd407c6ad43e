-- What is next: a move that is next has work that is not over, and parts that may both go on are compatible.
use Rattle.std.proofs.Common.{◌≡◌, ℕ, zero, suc, ◌<◌, [], ◌∷◌, Bool, true, false, not, ◌||◌, ◌&&◌, refl, sym, ◌∙◌, ap, subst, arith, inl, inr, ◌⊎◌, ◌+◌}
use Rattle.std.specs.Bool.{⊤}
use Rattle.sd_work.specs.Residual.{ready_from}
use Rattle.sd_work.specs.Touch.{Touch, AreCompatible}
use Rattle.sd_work.proofs.Flags.{both, or_other, and_false, not_true}
use Rattle.sd_work.proofs.Absorbing.{Below, below_same}
use Rattle.sd_confluence.proofs.bags.BagMemory.{Frame, Stack, Update, updated, outer_update, own_update}
use Rattle.sd_confluence.proofs.bags.Works.{Work, thread, group, scope, nest, over, basin, Works, no_works, and_work, is_over, all_over, overs, Route, part_number, taking, acting, closing, Answer, stops, makes, no_answer, owned_answer, act, act_at, Can, CanAt, CanHere}
use Rattle.sd_confluence.proofs.bags.WorkTouches.{IsUnseen, work_at, AllCompatible}
use Rattle.sd_confluence.proofs.bags.BagChanges.{split}
use Rattle.sd_confluence.proofs.commuting.Stable.{Covered, Avoids, apart_sym, unseen_of}
use Rattle.sd_confluence.proofs.commuting.Within.{covered_more, Gives, gives_map}

-- what always holds, holds of a move
pub gives_any : {P A : Type 0} (m : Answer P A) → Gives (λ b u x. ⊤) m
gives_any (stops turn f) = tt
gives_any (makes turn u x) = tt
gives_any no_answer = tt

mutual
  -- work with a next move is not over
  pub can_unfinished : {P : Type 0} (t : Work P) (p : Route) (s : Stack) → Can t p s → is_over t ≡ false
  can_unfinished (thread place w) p s c = c.0
  can_unfinished (group before parts) [] s c = elim c [ ]
  can_unfinished (group before parts) (part_number k ∷ p) s c = can_unfinished_at parts k p s c.1
  can_unfinished (group before parts) (taking v ∷ p) s c = elim c [ ]
  can_unfinished (group before parts) (acting v k ∷ p) s c = elim c [ ]
  can_unfinished (group before parts) (closing ∷ p) s c = elim c [ ]
  can_unfinished (scope own inside) p s c = can_unfinished inside p (own ∷ s) c
  can_unfinished (nest body exits own state values inside) p s c = refl
  can_unfinished (over own) p s c = elim c [ ]
  can_unfinished (basin l c body active closed) [] s d = elim d [ ]
  can_unfinished (basin l c body active closed) (part_number k ∷ p) s d = elim d [ ]
  can_unfinished (basin l c body active closed) (taking v ∷ p) s d = d.0
  can_unfinished (basin l c body active closed) (acting v k ∷ p) s d = d.0
  can_unfinished (basin l c body active closed) (closing ∷ p) s d = d.0

  -- the same of parts
  pub can_unfinished_at : {P : Type 0} (ts : Works P) (k : ℕ) (p : Route) (s : Stack) → CanAt ts k p s → all_over ts ≡ false
  can_unfinished_at no_works k p s c = elim c [ ]
  can_unfinished_at (and_work t ts) zero p s c = ap (λ b. b && all_over ts) (can_unfinished t p s c)
  can_unfinished_at (and_work t ts) (suc k) p s c = and_false (is_over t) (all_over ts) (can_unfinished_at ts k p s c)

-- after a move of a part each part that was over is over
pub flags_rise : {P : Type 0} (ts : Works P) (k : ℕ) (p : Route) (s : Stack) → CanAt ts k p s → Gives (λ b u us. Below (overs ts) (overs us)) (act_at ts k p s)
flags_rise no_works k p s c = tt
flags_rise (and_work t ts) zero p s c =
    gives_map (λ x. and_work x ts) (λ b u t'. ⊤) (λ b u us. Below (overs (and_work t ts)) (overs us))
    (λ b u t' h. (λ e. let no : true ≡ false = sym e ∙ can_unfinished t p s c in cc, below_same (overs ts))) (act t p s) (gives_any (act t p s))
flags_rise (and_work t ts) (suc k) p s c =
    gives_map (λ x. and_work t x) (λ b u us. Below (overs ts) (overs us)) (λ b u us. Below (overs (and_work t ts)) (overs us))
    (λ b u us h. (λ e. e, h)) (act_at ts k p s) (flags_rise ts k p s c)

-- where work is not over, its part's moves are the next ones
pub can_here : (b : Bool) (p : Route) (C : Type 0) → b ≡ false → C → CanHere b p C
can_here true p C e c = cc
can_here false p C e c = c

-- and only those
pub can_false : (b : Bool) (p : Route) (C : Type 0) → b ≡ false → CanHere b p C → C
can_false true p C e c = cc
can_false false p C e c = c

-- both of two things hold of a move
pub two : {P A : Type 0} (Q R : Bool → Update → A → Type 0) (m : Answer P A) → Gives Q m → Gives R m → Gives (λ b u a. Q b u a × R b u a) m
two Q R (stops turn f) g h = tt
two Q R (makes turn u a) g h = (g, h)
two Q R no_answer g h = tt

-- what a move leaves, in an owner
pub gives_owned : {P : Type 0} (make : Frame → Work P → Work P) (own : Frame) (Q : Work P → Type 0) (R : Work P → Type 0) → ((f : Frame) (t : Work P) → Q t → R (make f t)) → (m : Answer P (Work P)) → Gives (λ b u t. Q t) m → Gives (λ b u t. R t) (owned_answer make own m)
gives_owned make own Q R h (stops turn f) g = tt
gives_owned make own Q R h (makes turn u t) g = h (own_update u own) t g
gives_owned make own Q R h no_answer g = tt

-- an update among compatible touches is not seen by the others
pub avoids_of : (u : Update) (T U : Touch → Type 0) → Covered u T → ((a b : Touch) → T a → U b → AreCompatible a b) → Avoids u U
avoids_of u T U c h b ub = covered_more u T (λ a. IsUnseen a b) (λ a ta. unseen_of a b (h a b ta ub)) c

-- what stays next after a move of an owner's part
pub gives_moved : {P : Type 0} (make : Frame → Work P → Work P) (own : Frame) (q : Route) (s : Stack) → ((f : Frame) (t : Work P) (s' : Stack) → Can t q (f ∷ s') → Can (make f t) q s') →
    (m : Answer P (Work P)) → Gives (λ b u t. Can t q (updated u (own ∷ s))) m → Gives (λ b u t. Can t q (updated u s)) (owned_answer make own m)
gives_moved make own q s h (stops turn f) g = tt
gives_moved make own q s h (makes turn u t) g = h (own_update u own) t (updated (outer_update u) s) (subst (Can t q) (split u own s) g)
gives_moved make own q s h no_answer g = tt

-- a part with a next move is not over
pub can_part : {P : Type 0} (ts : Works P) (k : ℕ) (p : Route) (s : Stack) → CanAt ts k p s → is_over (work_at ts k) ≡ false
can_part no_works k p s c = elim c [ ]
can_part (and_work t ts) zero p s c = can_unfinished t p s c
can_part (and_work t ts) (suc k) p s c = can_part ts k p s c

finished_flag : {P : Type 0} (before : ℕ → ℕ → Bool) (ts : Works P) (j i k : ℕ) → ready_from before j (overs ts) k ≡ true → is_over (work_at ts i) ≡ false → before (i + j) k ≡ false
finished_flag before no_works j i k e f = cc
finished_flag before (and_work t ts) j zero k e f =
    let g : before j k ≡ false = not_true (before j k) (or_other (is_over t) (not (before j k)) (both (is_over t || not (before j k)) (ready_from before (suc j) (overs ts) k) e).0 f) in
    let same : j ≡ 0 + j = omega arith in
    subst (λ m. before m k ≡ false) same g
finished_flag before (and_work t ts) j (suc i) k e f =
    let g : before (i + suc j) k ≡ false = finished_flag before ts (suc j) i k (both (is_over t || not (before j k)) (ready_from before (suc j) (overs ts) k) e).1 f in
    let same : i + suc j ≡ suc i + j = omega arith in
    subst (λ m. before m k ≡ false) same g

-- of two numbers one is less
pub order : (k l : ℕ) → (k ≡ l → ⊥) → (k < l) ⊎ (l < k)
order zero zero n = absurd (n refl)
order zero (suc l) n = inl (omega arith)
order (suc k) zero n = inr (omega arith)
order (suc k) (suc l) n = elim (order k l (λ e. n (ap suc e))) [ inl h ↦ inl (omega arith) | inr h ↦ inr (omega arith) ]

-- parts that may both go on are compatible
pub clear : {P : Type 0} (before : ℕ → ℕ → Bool) (parts : Works P) (k : ℕ) (p : Route) (l : ℕ) (q : Route) (s : Stack) → ((i j : ℕ) → i < j → before i j ≡ false → AllCompatible (work_at parts i) (work_at parts j)) →
    Can (group before parts) (part_number k ∷ p) s → Can (group before parts) (part_number l ∷ q) s → (k ≡ l → ⊥) → AllCompatible (work_at parts k) (work_at parts l)
clear before parts k p l q s h c d n = go (order k l n)
  where
    go : (k < l) ⊎ (l < k) → AllCompatible (work_at parts k) (work_at parts l)
    go (inl lt) = let same : k ≡ k + 0 = omega arith in h k l lt (ap (λ m. before m l) same ∙ finished_flag before parts 0 k l d.0 (can_part parts k p s c.1))
    go (inr gt) = let same : l ≡ l + 0 = omega arith in λ a b ta tb. apart_sym b a (h l k gt (ap (λ m. before m k) same ∙ finished_flag before parts 0 l k c.0 (can_part parts l q s d.1)) b a tb ta)
