-- A move touches what its work may touch, and leaves work that touches no more.
use Rattle.std.proofs.Common.{◌≡◌, ℕ, zero, suc, List, [], ◌∷◌, Option, Some, None, Result, Ok, Err, ℤ, Bool, true, false, cond, not, refl, inl, inr, ◌⊎◌}
use Rattle.std.specs.Bool.{⊤}
use Rattle.sd_work.specs.declared.fault.FaultKind.{FaultKind}
use Rattle.sd_work.specs.Memory.{Reference, seen}
use Rattle.sd_work.specs.Leaf.{Pending, Leaf, reading, doing, write_value, transfer, push_to}
use Rattle.sd_work.specs.Move.{Fault}
use Rattle.sd_work.specs.LeafMove.{leaf_move, read_move, write_move, evaluation_move}
use Rattle.sd_work.specs.Exit.{Values, Exit, first_exit}
use Rattle.sd_work.specs.Touch.{Touch, writes, pushes, takes, inner, LeafTouches}
use Rattle.std.specs.Ordering.{int_eq}
use Rattle.sd_confluence.proofs.bags.BagMemory.{Frame, Stack, Update, keep, put, add, remove, plain, outer_put, outer_update, own_update}
use Rattle.sd_confluence.proofs.bags.Works.{Work, thread, group, scope, nest, over, basin, Works, no_works, and_work, is_over, Route, part_number, taking, acting, closing, Answer, stops, makes, no_answer, map_answer, leaf_answer, follow, owned_answer, at_last, put_active, act, act_at}
use Rattle.sd_confluence.proofs.bags.WorkTouches.{WorkTouches, SomeWork, work_at}
use Rattle.sd_confluence.proofs.commuting.Stable.{Covered, part_touches}

-- what holds of a move that goes
abbrev pub Gives : {P A : Type 0} → (Bool → Update → A → Type 0) → Answer P A → Type 0
Gives Q (stops turn f) = ⊤
Gives Q (makes turn u a) = Q turn u a
Gives Q no_answer = ⊤

-- what holds of a move of a part, as one of the whole
pub gives_map : {P A B : Type 0} (f : A → B) (Q : Bool → Update → A → Type 0) (R : Bool → Update → B → Type 0) → ((b : Bool) (u : Update) (a : A) → Q b u a → R b u (f a)) → (m : Answer P A) → Gives Q m → Gives R (map_answer f m)
gives_map f Q R h (stops turn e) g = tt
gives_map f Q R h (makes turn u a) g = h turn u a g
gives_map f Q R h no_answer g = tt

-- of a move more holds, where it follows
pub gives_more : {P A : Type 0} (Q : Bool → Update → A → Type 0) (R : Bool → Update → A → Type 0) → ((b : Bool) (u : Update) (a : A) → Q b u a → R b u a) → (m : Answer P A) → Gives Q m → Gives R m
gives_more Q R h (stops turn e) g = tt
gives_more Q R h (makes turn u a) g = h turn u a g
gives_more Q R h no_answer g = tt

-- what holds of either of two moves
pub gives_cond : {P A : Type 0} (Q : Bool → Update → A → Type 0) (b : Bool) (m n : Answer P A) → Gives Q m → Gives Q n → Gives Q (cond b m n)
gives_cond Q true m n g h = g
gives_cond Q false m n g h = h

-- what an update touches is among more touches
pub covered_more : (u : Update) (T U : Touch → Type 0) → ((a : Touch) → T a → U a) → Covered u T → Covered u U
covered_more keep T U h c = tt
covered_more (put to by v) T U h c = h (writes to by) c
covered_more (add l k v) T U h c = h (pushes l k) c
covered_more (remove l k v) T U h c = h (takes l k) c

-- what it changes is among T, and what is left touches no more than T
abbrev pub Within : (Touch → Type 0) → Update → (Touch → Type 0) → Type 0
Within T u T' = Covered u T × ((a : Touch) → T' a → T a)

-- what a leaf's move touches
pub within_work : {P : Type 0} (place : P) (w : Leaf) (s : Stack) → Gives (λ b u x. Within (LeafTouches w) u (LeafTouches x)) (leaf_answer (leaf_move place w (plain s)))
within_work place (reading b [] got eval) s = go (eval got) refl
  where
    go : (r : Result (List Pending) FaultKind) → eval got ≡ r → Gives (λ t u x. Within (LeafTouches (reading b [] got eval)) u (LeafTouches x)) (leaf_answer (evaluation_move place (not b) r))
    go (Ok es) e = (tt, λ a d. inr (got, es, e, d))
    go (Err f) e = tt
within_work place (reading b (r ∷ rs) got eval) s = go (seen r (plain s))
  where
    go : (o : Option ℤ) → Gives (λ t u x. Within (LeafTouches (reading b (r ∷ rs) got eval)) u (LeafTouches x)) (leaf_answer (read_move place (not b) o rs got eval))
    go None = tt
    go (Some v) = (tt, λ a. elim [ inl w ↦ inl (inr w) | inr x ↦ inr x ])
within_work place (doing []) s = tt
within_work place (doing (write_value v None by ∷ es)) s = tt
within_work place (doing (write_value v (Some r) by ∷ es)) s = (inl refl, λ a d. inr d)
within_work place (doing (transfer from to by ∷ es)) s = go to (seen from (plain s))
  where
    go : (to : Option Reference) (o : Option ℤ) → Gives (λ t u x. Within (LeafTouches (doing (transfer from to by ∷ es))) u (LeafTouches x)) (leaf_answer (write_move place o to by es))
    go None None = tt
    go None (Some v) = tt
    go (Some r) None = tt
    go (Some r) (Some v) = (inl (inr refl), λ a d. inr d)
within_work place (doing (push_to l c v ∷ es)) s = (inl refl, λ a d. inr d)

-- what an update touches outside an owner
pub covered_outer : (u : Update) (T : Touch → Type 0) → Covered u T → Covered (outer_update u) (λ a. T (inner a))
covered_outer keep T h = tt
covered_outer (put to by v) T h = go to.level to.container to.element h
  where
    go : (l c p : ℕ) → T (writes (record { level = l; container = c; element = p }) by) → Covered (outer_put l c p by v) (λ a. T (inner a))
    go zero c p h = tt
    go (suc l) c p h = h
covered_outer (add zero c v) T h = tt
covered_outer (add (suc l) c v) T h = h
covered_outer (remove zero c v) T h = tt
covered_outer (remove (suc l) c v) T h = h

within_owned : {P : Type 0} (make : Frame → Work P → Work P) (own : Frame) (T U : Touch → Type 0) → ((a : Touch) → T (inner a) → U a) → ((f : Frame) (t : Work P) → ((a : Touch) → WorkTouches t a → T a) → (a : Touch) → WorkTouches (make f t) a → U a) →
    (m : Answer P (Work P)) → Gives (λ b u t. Within T u (WorkTouches t)) m → Gives (λ b u t. Within U u (WorkTouches t)) (owned_answer make own m)
within_owned make own T U h k (stops turn f) g = tt
within_owned make own T U h k (makes turn u t) g =
    (covered_more (outer_update u) (λ a. T (inner a)) U h (covered_outer u T g.0), k (own_update u own) t g.1)
within_owned make own T U h k no_answer g = tt

within_follow : {P : Type 0} (body : ℕ → Values → Work P) (exits : ℕ → Values → List (Exit P)) (own : Frame) (state : ℕ) (values : Values) (inside : Work P) (r : Result (Option (Exit P)) (Fault P)) →
    Gives (λ b u t. Within (WorkTouches (nest body exits own state values inside)) u (WorkTouches t)) (follow body exits own r)
within_follow body exits own state values inside (Err f) = tt
within_follow body exits own state values inside (Ok None) = (tt, λ a x. elim x [ ])
within_follow body exits own state values inside (Ok (Some e)) = (tt, λ a. elim [ inl x ↦ inr (inl (e.state, e.values, x)) | inr y ↦ inr y ])

-- after a move of part k each part touches no more
abbrev pub WithinParts : {P : Type 0} → Works P → ℕ → Update → Works P → Type 0
WithinParts ts k u us = Covered u (WorkTouches (work_at ts k)) × ((a : Touch) → SomeWork us a → SomeWork ts a) × ((i : ℕ) (a : Touch) → WorkTouches (work_at us i) a → WorkTouches (work_at ts i) a)

first_part : {P : Type 0} (t : Work P) (ts : Works P) (t' : Work P) → ((a : Touch) → WorkTouches t' a → WorkTouches t a) → (i : ℕ) (a : Touch) → WorkTouches (work_at (and_work t' ts) i) a → WorkTouches (work_at (and_work t ts) i) a
first_part t ts t' h zero a x = h a x
first_part t ts t' h (suc i) a x = x

later_part : {P : Type 0} (t : Work P) (ts us : Works P) → ((i : ℕ) (a : Touch) → WorkTouches (work_at us i) a → WorkTouches (work_at ts i) a) → (i : ℕ) (a : Touch) → WorkTouches (work_at (and_work t us) i) a → WorkTouches (work_at (and_work t ts) i) a
later_part t ts us h zero a x = x
later_part t ts us h (suc i) a x = h i a x

-- what works touch with one more at the end
pub last_touches : {P : Type 0} (us : Works P) (t : Work P) (a : Touch) → SomeWork (at_last us t) a → SomeWork us a ⊎ WorkTouches t a
last_touches no_works t a h = elim h [ inl x ↦ inr x | inr x ↦ inl x ]
last_touches (and_work u us) t a h = elim h [ inl x ↦ inl (inl x) | inr x ↦ elim (last_touches us t a x) [ inl y ↦ inl (inr y) | inr y ↦ inr y ] ]

-- what either of two works touches
pub put_touches : {P : Type 0} (b : Bool) (ts us : Works P) (a : Touch) → SomeWork (cond b ts us) a → SomeWork ts a ⊎ SomeWork us a
put_touches true ts us a h = inl h
put_touches false ts us a h = inr h

take_touches : {P : Type 0} (v : ℤ) (body : ℤ → Work P) (active : ℤ → Works P) (a : Touch) (w : ℤ) → SomeWork (put_active v (at_last (active v) (body v)) active w) a →
    ((x : ℤ) × SomeWork (active x) a) ⊎ ((x : ℤ) × WorkTouches (body x) a)
take_touches v body active a w h =
    elim (put_touches (int_eq v w) (at_last (active v) (body v)) (active w) a h) [
      | inl x ↦ elim (last_touches (active v) (body v) a x) [ inl y ↦ inl (v, y) | inr y ↦ inr (v, y) ]
      | inr x ↦ inl (w, x)
    ]

act_touches : {P : Type 0} (v : ℤ) (us : Works P) (active : ℤ → Works P) (a : Touch) → ((a : Touch) → SomeWork us a → SomeWork (active v) a) → (w : ℤ) → SomeWork (put_active v us active w) a → (x : ℤ) × SomeWork (active x) a
act_touches v us active a g w h = elim (put_touches (int_eq v w) us (active w) a h) [ inl x ↦ (v, g a x) | inr x ↦ (w, x) ]

mutual
  -- a move touches what its work may touch, and leaves work that touches no more
  pub within : {P : Type 0} (t : Work P) (p : Route) (s : Stack) → Gives (λ b u t'. Within (WorkTouches t) u (WorkTouches t')) (act t p s)
  within (thread place w) p s = gives_map (thread place) _ _ (λ b u x h. h) (leaf_answer (leaf_move place w (plain s))) (within_work place w s)
  within (group before parts) [] s = tt
  within (group before parts) (taking v ∷ p) s = tt
  within (group before parts) (acting v k ∷ p) s = tt
  within (group before parts) (closing ∷ p) s = tt
  within (group before parts) (part_number k ∷ p) s =
      gives_map (group before) (λ b u us. WithinParts parts k u us) (λ b u t'. Within (WorkTouches (group before parts)) u (WorkTouches t'))
      (λ b u us h. (covered_more u (WorkTouches (work_at parts k)) (SomeWork parts) (λ a. part_touches parts k a) h.0, h.1)) (act_at parts k p s) (within_at parts k p s)
  within (scope own inside) p s =
      within_owned scope own (WorkTouches inside) (λ a. WorkTouches inside (inner a)) (λ a x. x) (λ f t g a x. g (inner a) x) (act inside p (own ∷ s)) (within inside p (own ∷ s))
  within (nest body exits own state values inside) p s =
      gives_cond (λ b u t. Within (WorkTouches (nest body exits own state values inside)) u (WorkTouches t)) (is_over inside) _ _
      (within_follow body exits own state values inside (first_exit (exits state values) (plain (own ∷ s))))
      (within_owned (λ f t. nest body exits f state values t) own (WorkTouches inside) (WorkTouches (nest body exits own state values inside)) (λ a x. inl x)
      (λ f t g a. elim [ inl x ↦ inl (g (inner a) x) | inr y ↦ inr y ]) (act inside p (own ∷ s)) (within inside p (own ∷ s)))
  within (over own) p s = tt
  within (basin l c body active closed) [] s = tt
  within (basin l c body active closed) (part_number k ∷ p) s = tt
  within (basin l c body active closed) (taking v ∷ p) s =
      (inl refl, λ a. elim [ inl e ↦ inl e | inr x ↦ inr (elim x [ inl y ↦ take_touches v body active a y.0 y.1 | inr y ↦ inr y ]) ])
  within (basin l c body active closed) (acting v k ∷ p) s =
      gives_map (λ ts. basin l c body (put_active v ts active) closed) (λ b u us. WithinParts (active v) k u us) (λ b u t'. Within (WorkTouches (basin l c body active closed)) u (WorkTouches t'))
      (λ b u us h. (
        covered_more u (WorkTouches (work_at (active v) k)) (WorkTouches (basin l c body active closed)) (λ a x. inr (inl (v, part_touches (active v) k a x))) h.0,
        λ a. elim [ inl e ↦ inl e | inr x ↦ inr (elim x [ inl y ↦ inl (act_touches v us active a h.1 y.0 y.1) | inr y ↦ inr y ]) ],
      )) (act_at (active v) k p s) (within_at (active v) k p s)
  within (basin l c body active closed) (closing ∷ p) s = (tt, λ a x. x)

  -- the same of a move of a part
  pub within_at : {P : Type 0} (ts : Works P) (k : ℕ) (p : Route) (s : Stack) → Gives (λ b u us. WithinParts ts k u us) (act_at ts k p s)
  within_at no_works k p s = tt
  within_at (and_work t ts) zero p s =
      gives_map (λ x. and_work x ts) (λ b u t'. Within (WorkTouches t) u (WorkTouches t')) (λ b u us. WithinParts (and_work t ts) 0 u us)
      (λ b u t' h. (h.0, λ a. elim [ inl x ↦ inl (h.1 a x) | inr y ↦ inr y ], first_part t ts t' h.1)) (act t p s) (within t p s)
  within_at (and_work t ts) (suc k) p s =
      gives_map (λ x. and_work t x) (λ b u us. WithinParts ts k u us) (λ b u us. WithinParts (and_work t ts) (suc k) u us)
      (λ b u us h. (h.0, λ a. elim [ inl x ↦ inl x | inr y ↦ inr (h.1 a y) ], later_part t ts us h.2)) (act_at ts k p s) (within_at ts k p s)
