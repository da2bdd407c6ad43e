-- A move is the same after an update of which it sees nothing, and stays next after it.
use Rattle.std.proofs.Common.{◌≡◌, ℕ, zero, suc, pred, List, [], ◌∷◌, Option, Some, None, Bool, true, false, cond, not, refl, sym, ◌∙◌, ap, subst, inl, inr, ◌⊎◌}
use Rattle.std.specs.Bool.{⊤}
use Rattle.sd_num.specs.Resolution.{IsCommuting}
use Rattle.sd_num.specs.declared.resolution.Resolution.{Resolution}
use Rattle.sd_work.specs.Memory.{Reference, seen}
use Rattle.sd_work.specs.Leaf.{Leaf, reading, doing, write_value, transfer, push_to}
use Rattle.sd_work.specs.LeafMove.{leaf_move, read_move, write_move}
use Rattle.sd_work.specs.Exit.{Guard, Exit, with_value, all_seen, decided, passed, or_later, first_exit}
use Rattle.sd_work.specs.Harmless.{SameCommuting}
use Rattle.sd_work.specs.Touch.{Touch, reads, writes, pushes, takes, AreCompatible, inner, inner_reference, IsRead, SomeRead, LeafTouches, GuardTouches, SomeExitTouches}
use Rattle.sd_confluence.proofs.bags.BagMemory.{Frame, Stack, Update, keep, put, add, remove, updated, plain}
use Rattle.sd_confluence.proofs.bags.Works.{Work, thread, group, scope, nest, over, basin, Works, no_works, and_work, is_over, Route, part_number, taking, acting, closing, map_answer, leaf_answer, follow, owned_answer, put_active, act, act_at, Can, CanAt, CanHere}
use Rattle.sd_confluence.proofs.bags.WorkTouches.{IsUnseen, WorkTouches, SomeWork, work_at}
use Rattle.sd_confluence.proofs.bags.BagChanges.{ApartReading, look_apply, held_kept, ApartHeld}

-- what an update touches, if it changes anything, is among these
abbrev pub Covered : Update → (Touch → Type 0) → Type 0
Covered keep T = ⊤
Covered (put to by v) T = T (writes to by)
Covered (add l c v) T = T (pushes l c)
Covered (remove l c v) T = T (takes l c)

-- an update is not seen by any of these touches
abbrev pub Avoids : Update → (Touch → Type 0) → Type 0
Avoids u T = (b : Touch) → T b → Covered u (λ a. IsUnseen a b)

-- an update outside an owner, as it is inside
abbrev pub raise_change : Update → Update
raise_change keep = keep
raise_change (put to by v) = put (inner_reference to) by v
raise_change (add l c v) = add (suc l) c v
raise_change (remove l c v) = remove (suc l) c v

raise_apply : (u : Update) (f : Frame) (s : Stack) → updated (raise_change u) (f ∷ s) ≡ f ∷ updated u s
raise_apply keep f s = refl
raise_apply (put to by v) f s = refl
raise_apply (add l c v) f s = refl
raise_apply (remove l c v) f s = refl

-- a touch inside an owner is on the owner's frame, or one outside as it is named inside
down : (b : Touch) → ((a : Touch) × (b ≡ inner a)) ⊎ ((a : Touch) → IsUnseen (inner a) b)
down (reads r) = go r.level r.container r.element
  where
    own_read : (c p : ℕ) (a : Touch) → IsUnseen (inner a) (reads (record { level = 0; container = c; element = p }))
    own_read c p (reads q) = tt
    own_read c p (writes q by) = λ e. let e' : suc q.level ≡ 0 = ap (λ (x : Reference). x.level) e in cc
    own_read c p (pushes l d) = tt
    own_read c p (takes l d) = tt

    go : (l c p : ℕ) → ((a : Touch) × (reads (record { level = l; container = c; element = p }) ≡ inner a)) ⊎ ((a : Touch) → IsUnseen (inner a) (reads (record { level = l; container = c; element = p })))
    go zero c p = inr (own_read c p)
    go (suc l) c p = inl (reads (record { level = l; container = c; element = p }), refl)
down (writes r by) = inr own_write
  where
    own_write : (a : Touch) → IsUnseen (inner a) (writes r by)
    own_write (reads q) = tt
    own_write (writes q to) = tt
    own_write (pushes l d) = tt
    own_write (takes l d) = tt
down (pushes m c) = inr own_push
  where
    own_push : (a : Touch) → IsUnseen (inner a) (pushes m c)
    own_push (reads q) = tt
    own_push (writes q to) = tt
    own_push (pushes l d) = tt
    own_push (takes l d) = tt
down (takes zero c) = inr own_take
  where
    own_take : (a : Touch) → IsUnseen (inner a) (takes 0 c)
    own_take (reads q) = tt
    own_take (writes q to) = tt
    own_take (pushes l d) = λ e e'. cc
    own_take (takes l d) = λ e e'. cc
down (takes (suc l) c) = inl (takes l c, refl)

lowered : (r q : Reference) → inner_reference r ≡ inner_reference q → r ≡ q
lowered r q e = λ i. record { level = pred (e i).level; container = (e i).container; element = (e i).element }

unseen_raise : (a b : Touch) → IsUnseen a b → IsUnseen (inner a) (inner b)
unseen_raise (reads r) (reads q) h = tt
unseen_raise (reads r) (writes q by) h = tt
unseen_raise (reads r) (pushes l c) h = tt
unseen_raise (reads r) (takes l c) h = tt
unseen_raise (writes r by) (reads q) h = λ e. h (lowered r q e)
unseen_raise (writes r by) (writes q to) h = tt
unseen_raise (writes r by) (pushes l c) h = tt
unseen_raise (writes r by) (takes l c) h = tt
unseen_raise (pushes l c) (reads q) h = tt
unseen_raise (pushes l c) (writes q to) h = tt
unseen_raise (pushes l c) (pushes m d) h = tt
unseen_raise (pushes l c) (takes m d) h = λ e e'. h (ap pred e) e'
unseen_raise (takes l c) (reads q) h = tt
unseen_raise (takes l c) (writes q to) h = tt
unseen_raise (takes l c) (pushes m d) h = tt
unseen_raise (takes l c) (takes m d) h = λ e e'. h (ap pred e) e'

-- what is compatible is not seen
pub unseen_of : (a b : Touch) → AreCompatible a b → IsUnseen a b
unseen_of (reads r) (reads q) h = tt
unseen_of (reads r) (writes q by) h = tt
unseen_of (reads r) (pushes l c) h = tt
unseen_of (reads r) (takes l c) h = tt
unseen_of (writes r by) (reads q) h = h
unseen_of (writes r by) (writes q to) h = tt
unseen_of (writes r by) (pushes l c) h = tt
unseen_of (writes r by) (takes l c) h = tt
unseen_of (pushes l c) (reads q) h = tt
unseen_of (pushes l c) (writes q to) h = tt
unseen_of (pushes l c) (pushes m d) h = tt
unseen_of (pushes l c) (takes m d) h = h
unseen_of (takes l c) (reads q) h = tt
unseen_of (takes l c) (writes q to) h = tt
unseen_of (takes l c) (pushes m d) h = tt
unseen_of (takes l c) (takes m d) h = h

alike_sym : (by to : Option Resolution) → SameCommuting by to → SameCommuting to by
alike_sym None to h = elim h [ ]
alike_sym (Some r) None h = elim h [ ]
alike_sym (Some r) (Some q) h = (sym h.0, subst IsCommuting h.0 h.1)

-- two touches are compatible in either order
pub apart_sym : (a b : Touch) → AreCompatible a b → AreCompatible b a
apart_sym (reads r) (reads q) h = tt
apart_sym (reads r) (writes q by) h = λ e. h (sym e)
apart_sym (reads r) (pushes l c) h = tt
apart_sym (writes r by) (reads q) h = λ e. h (sym e)
apart_sym (writes r by) (writes q to) h = λ e. alike_sym by to (h (sym e))
apart_sym (writes r by) (pushes l c) h = tt
apart_sym (pushes l c) (reads q) h = tt
apart_sym (pushes l c) (writes q to) h = tt
apart_sym (pushes l c) (pushes m d) h = tt
apart_sym (pushes l c) (takes m d) h = λ e e'. h (sym e) (sym e')
apart_sym (reads r) (takes l c) h = tt
apart_sym (writes r by) (takes l c) h = tt
apart_sym (takes l c) (reads q) h = tt
apart_sym (takes l c) (writes q to) h = tt
apart_sym (takes l c) (pushes m d) h = λ e e'. h (sym e) (sym e')
apart_sym (takes l c) (takes m d) h = λ e e'. h (sym e) (sym e')

raise_unseen : (a : Touch) (T : Touch → Type 0) (b : Touch) → ((c : Touch) → T (inner c) → IsUnseen a c) → T b → IsUnseen (inner a) b
raise_unseen a T b h t = go (down b)
  where
    go : ((c : Touch) × (b ≡ inner c)) ⊎ ((c : Touch) → IsUnseen (inner c) b) → IsUnseen (inner a) b
    go (inl x) = subst (IsUnseen (inner a)) (sym x.1) (unseen_raise a x.0 (h x.0 (subst T x.1 t)))
    go (inr f) = f a

raise_avoids : (u : Update) (T : Touch → Type 0) → Avoids u (λ a. T (inner a)) → Avoids (raise_change u) T
raise_avoids keep T h b t = tt
raise_avoids (put to by v) T h b t = raise_unseen (writes to by) T b h t
raise_avoids (add l c v) T h b t = raise_unseen (pushes l c) T b h t
raise_avoids (remove l c v) T h b t = raise_unseen (takes l c) T b h t

reading_apart : (q : Reference) (u : Update) → Covered u (λ a. IsUnseen a (reads q)) → ApartReading q u
reading_apart q keep h = tt
reading_apart q (put to by v) h = λ e. h (sym e)
reading_apart q (add l c v) h = tt
reading_apart q (remove l c v) h = tt

seen_kept : (r : Option Reference) (u : Update) (s : Stack) → Avoids u (IsRead r) → seen r (plain (updated u s)) ≡ seen r (plain s)
seen_kept None u s h = refl
seen_kept (Some q) u s h = ap Some (look_apply q u (reading_apart q u (h (reads q) refl)) s)

all_seen_kept : (rs : List (Option Reference)) (u : Update) (s : Stack) → Avoids u (SomeRead rs) → all_seen rs (plain (updated u s)) ≡ all_seen rs (plain s)
all_seen_kept [] u s h = refl
all_seen_kept (r ∷ rs) u s h =
    let e = seen_kept r u s (λ b m. h b (inl m)) in
    let e' = all_seen_kept rs u s (λ b m. h b (inr m)) in
    λ i. with_value (e i) (e' i)

passed_kept : {P : Type 0} (g : Option (Guard P)) (u : Update) (s : Stack) → Avoids u (GuardTouches g) → passed g (plain (updated u s)) ≡ passed g (plain s)
passed_kept None u s h = refl
passed_kept (Some g) u s h = ap (decided g) (all_seen_kept g.reads u s h)

chosen_kept : {P : Type 0} (es : List (Exit P)) (u : Update) (s : Stack) → Avoids u (SomeExitTouches es) → first_exit es (plain (updated u s)) ≡ first_exit es (plain s)
chosen_kept [] u s h = refl
chosen_kept (e ∷ es) u s h =
    let p = passed_kept e.when u s (λ b m. h b (inl m)) in
    let q = chosen_kept es u s (λ b m. h b (inr m)) in
    λ i. or_later (p i) e (q i)

stable_work : {P : Type 0} (place : P) (w : Leaf) (u : Update) (s : Stack) → Avoids u (LeafTouches w) → leaf_move place w (plain (updated u s)) ≡ leaf_move place w (plain s)
stable_work place (reading b [] got eval) u s h = refl
stable_work place (reading b (r ∷ rs) got eval) u s h =
    ap (λ v. read_move place (not b) v rs got eval) (seen_kept r u s (λ c m. h c (inl (inl m))))
stable_work place (doing []) u s h = refl
stable_work place (doing (write_value v to by ∷ es)) u s h = refl
stable_work place (doing (transfer from to by ∷ es)) u s h =
    ap (λ v. write_move place v to by es) (seen_kept from u s (λ c m. h c (inl (inl m))))
stable_work place (doing (push_to l c v ∷ es)) u s h = refl

-- what a part touches, some part touches
pub part_touches : {P : Type 0} (ts : Works P) (k : ℕ) (a : Touch) → WorkTouches (work_at ts k) a → SomeWork ts a
part_touches no_works k a h = h
part_touches (and_work t ts) zero a h = inl h
part_touches (and_work t ts) (suc k) a h = inr (part_touches ts k a h)

mutual
  -- a move is the same after an update that its work does not see
  pub stable : {P : Type 0} (t : Work P) (p : Route) (u : Update) (s : Stack) → Avoids u (WorkTouches t) → act t p (updated u s) ≡ act t p s
  stable (thread place w) p u s h = ap (λ m. map_answer (thread place) (leaf_answer m)) (stable_work place w u s h)
  stable (group before parts) [] u s h = refl
  stable (group before parts) (taking v ∷ p) u s h = refl
  stable (group before parts) (acting v k ∷ p) u s h = refl
  stable (group before parts) (closing ∷ p) u s h = refl
  stable (group before parts) (part_number k ∷ p) u s h = ap (map_answer (group before)) (stable_at parts k p u s (λ b t. h b (part_touches parts k b t)))
  stable (scope own inside) p u s h =
      ap (owned_answer scope own) (ap (act inside p) (sym (raise_apply u own s)) ∙ stable inside p (raise_change u) (own ∷ s) (raise_avoids u (WorkTouches inside) h))
  stable (nest body exits own state values inside) p u s h =
      let e = ap (λ z. first_exit (exits state values) (plain z)) (sym (raise_apply u own s))
      ∙ chosen_kept (exits state values) (raise_change u) (own ∷ s) (raise_avoids u (SomeExitTouches (exits state values)) (λ b t. h b (inr (inr (state, values, t))))) in
      let e' = ap (act inside p) (sym (raise_apply u own s)) ∙ stable inside p (raise_change u) (own ∷ s) (raise_avoids u (WorkTouches inside) (λ b t. h b (inl t))) in
      λ i. cond (is_over inside) (follow body exits own (e i)) (owned_answer (λ f t. nest body exits f state values t) own (e' i))
  stable (over own) p u s h = refl
  stable (basin l c body active closed) [] u s h = refl
  stable (basin l c body active closed) (part_number k ∷ p) u s h = refl
  stable (basin l c body active closed) (taking v ∷ p) u s h = refl
  stable (basin l c body active closed) (acting v k ∷ p) u s h =
      ap (map_answer (λ ts. basin l c body (put_active v ts active) closed)) (stable_at (active v) k p u s (λ b t. h b (inr (inl (v, part_touches (active v) k b t)))))
  stable (basin l c body active closed) (closing ∷ p) u s h = refl

  -- the same of a move of a part
  pub stable_at : {P : Type 0} (ts : Works P) (k : ℕ) (p : Route) (u : Update) (s : Stack) → Avoids u (WorkTouches (work_at ts k)) → act_at ts k p (updated u s) ≡ act_at ts k p s
  stable_at no_works k p u s h = refl
  stable_at (and_work t ts) zero p u s h = ap (map_answer (λ x. and_work x ts)) (stable t p u s h)
  stable_at (and_work t ts) (suc k) p u s h = ap (map_answer (λ x. and_work t x)) (stable_at ts k p u s h)

-- an update that a take does not see leaves how often values wait there
pub held_apart : (l c : ℕ) (u : Update) → Covered u (λ a. IsUnseen a (takes l c)) → ApartHeld l c u
held_apart l c keep h = tt
held_apart l c (put to by v) h = tt
held_apart l c (add m d v) h = λ e e'. h (sym e) (sym e')
held_apart l c (remove m d v) h = λ e e'. h (sym e) (sym e')

kept_here : (b : Bool) (p : Route) (C D : Type 0) → (C → D) → CanHere b p C → CanHere b p D
kept_here true p C D f c = c
kept_here false p C D f c = f c

mutual
  -- a move that is next stays so after an update that its work does not see
  pub can_kept : {P : Type 0} (t : Work P) (p : Route) (u : Update) (s : Stack) → Avoids u (WorkTouches t) → Can t p s → Can t p (updated u s)
  can_kept (thread place w) p u s h c = c
  can_kept (group before parts) [] u s h c = c
  can_kept (group before parts) (part_number k ∷ p) u s h c = (c.0, can_kept_at parts k p u s (λ b t. h b (part_touches parts k b t)) c.1)
  can_kept (group before parts) (taking v ∷ p) u s h c = c
  can_kept (group before parts) (acting v k ∷ p) u s h c = c
  can_kept (group before parts) (closing ∷ p) u s h c = c
  can_kept (scope own inside) p u s h c =
      subst (Can inside p) (raise_apply u own s) (can_kept inside p (raise_change u) (own ∷ s) (raise_avoids u (WorkTouches inside) h) c)
  can_kept (nest body exits own state values inside) p u s h c =
      kept_here (is_over inside) p (Can inside p (own ∷ s)) (Can inside p (own ∷ updated u s))
      (λ d. subst (Can inside p) (raise_apply u own s) (can_kept inside p (raise_change u) (own ∷ s) (raise_avoids u (WorkTouches inside) (λ b t. h b (inl t))) d)) c
  can_kept (over own) p u s h c = c
  can_kept (basin l c body active closed) [] u s h d = d
  can_kept (basin l c body active closed) (part_number k ∷ p) u s h d = d
  can_kept (basin l c body active closed) (taking v ∷ p) u s h d = (d.0, d.1, (d.2.0, held_kept l c v u (held_apart l c u (h (takes l c) (inl refl))) s ∙ d.2.1))
  can_kept (basin l c body active closed) (acting v k ∷ p) u s h d =
      (d.0, can_kept_at (active v) k p u s (λ b t. h b (inr (inl (v, part_touches (active v) k b t)))) d.1)
  can_kept (basin l c body active closed) (closing ∷ p) u s h d = (d.0, d.1, d.2, λ v. held_kept l c v u (held_apart l c u (h (takes l c) (inl refl))) s ∙ d.3 v)

  -- the same of a move of a part
  pub can_kept_at : {P : Type 0} (ts : Works P) (k : ℕ) (p : Route) (u : Update) (s : Stack) → Avoids u (WorkTouches (work_at ts k)) → CanAt ts k p s → CanAt ts k p (updated u s)
  can_kept_at no_works k p u s h c = c
  can_kept_at (and_work t ts) zero p u s h c = can_kept t p u s h c
  can_kept_at (and_work t ts) (suc k) p u s h c = can_kept_at ts k p u s h c
