-- Work does not see a change that spares what it touches: its next moves stay, and so does each move.
use Rattle.std.proofs.Common.{◌≡◌, ℕ, zero, suc, pred, List, [], ◌∷◌, ◌++◌, Option, Some, None, Bool, cond, not, slice_get, refl, sym, ◌∙◌, ap, inl, inr}
use Rattle.sd_work.specs.Memory.{Memory, Memories, Reference, seen}
use Rattle.sd_work.specs.Change.{Change, nothing, write, push, take, apply}
use Rattle.sd_work.specs.Leaf.{Leaf, reading, doing, write_value, transfer, push_to}
use Rattle.sd_work.specs.LeafMove.{leaf_move, read_move, write_move}
use Rattle.sd_work.specs.Exit.{Guard, Exit, with_value, all_seen, decided, passed, or_later, first_exit}
use Rattle.sd_work.specs.Residual.{Term, leaf, list, owning, nested, ended, pool, Terms, none, also, Actives, idle, busy, finished, flags_of, is_ready}
use Rattle.sd_work.specs.Move.{map_move}
use Rattle.sd_work.specs.Moves.{Path, moves_in, takes_from, moves, moves_of_parts, moves_of_active}
use Rattle.sd_work.specs.Fire.{owned, transition, take_move, fire, fire_part, fire_active}
use Rattle.sd_work.specs.Touch.{Touch, reads, writes, pushes, takes, inner, inner_reference, IsRead, SomeRead, LeafTouches, GuardTouches, SomeExitTouches, Touches, SomePartTouches, SomeActiveTouches, SparesTouch, SparesWork}
use Rattle.sd_work.proofs.Changes.{look-apply, waiting-apply}

-- a change is not seen by any of these touches
abbrev Spares : (Touch → Type 0) → Change → Type 0
Spares T change = (touch : Touch) → T touch → SparesTouch touch change

-- a change outside an owner, as it is inside
abbrev inner_change : Change → Change
inner_change nothing = nothing
inner_change (write to by value) = write (inner_reference to) by value
inner_change (push level container value) = push (suc level) container value
inner_change (take level container position) = take (suc level) container position

-- it leaves the owner's memory
apply-inner : (change : Change) (own : Memory) (s : Memories) → apply (inner_change change) (own ∷ s) ≡ own ∷ apply change s
apply-inner nothing own s = refl
apply-inner (write r by x) own s = refl
apply-inner (push l c x) own s = refl
apply-inner (take l c k) own s = refl

-- ---- what is touched inside an owner

lowered : (r q : Reference) → inner_reference r ≡ inner_reference q → r ≡ q
lowered r q e = λ i. record { level = pred (e i).level; container = (e i).container; element = (e i).element }

-- an element of the owner is not changed from outside, and one outside only where it is changed there
read_inside : (T : Touch → Type 0) (d : Change) → Spares (λ a. T (inner a)) d → (l c p : ℕ) → T (reads (record { level = l; container = c; element = p })) → SparesTouch (reads (record { level = l; container = c; element = p })) (inner_change d)
read_inside T nothing h l c p t = tt
read_inside T (push m d x) h l c p t = tt
read_inside T (take m d k) h l c p t = tt
read_inside T (write r by x) h zero c p t = λ e. let e' : 0 ≡ suc r.level = ap (λ (q : Reference). q.level) e in cc
read_inside T (write r by x) h (suc l) c p t = λ e. h (reads (record { level = l; container = c; element = p })) t (lowered _ r e)

-- nor is a stream
take_inside : (T : Touch → Type 0) (d : Change) → Spares (λ a. T (inner a)) d → (l c : ℕ) → T (takes l c) → SparesTouch (takes l c) (inner_change d)
take_inside T nothing h l c t = tt
take_inside T (write r by x) h l c t = tt
take_inside T (push m d x) h zero c t = λ e f. cc
take_inside T (push m d x) h (suc l) c t = λ e f. h (takes l c) t (ap pred e) f
take_inside T (take m d k) h zero c t = λ e f. cc
take_inside T (take m d k) h (suc l) c t = λ e f. h (takes l c) t (ap pred e) f

-- a change that spares what is touched outside an owner spares what is touched inside
spares_inside : (T : Touch → Type 0) (d : Change) → Spares (λ a. T (inner a)) d → Spares T (inner_change d)
spares_inside T d h (reads r) t = read_inside T d h r.level r.container r.element t
spares_inside T d h (writes r by) t = tt
spares_inside T d h (pushes l c) t = tt
spares_inside T d h (takes l c) t = take_inside T d h l c t

-- ---- what is read

seen_kept : (r : Option Reference) (d : Change) (s : Memories) → Spares (IsRead r) d → seen r (apply d s) ≡ seen r s
seen_kept None d s h = refl
seen_kept (Some q) d s h = ap Some (look-apply q d (h (reads q) refl) s)

all_seen_kept : (rs : List (Option Reference)) (d : Change) (s : Memories) → Spares (SomeRead rs) d → all_seen rs (apply d s) ≡ all_seen rs s
all_seen_kept [] d s h = refl
all_seen_kept (r ∷ rs) d s h =
    let e = seen_kept r d s (λ a t. h a (inl t)) in
    let e' = all_seen_kept rs d s (λ a t. h a (inr t)) in
    λ i. with_value (e i) (e' i)

passed_kept : {P : Type 0} (g : Option (Guard P)) (d : Change) (s : Memories) → Spares (GuardTouches g) d → passed g (apply d s) ≡ passed g s
passed_kept None d s h = refl
passed_kept (Some g) d s h = ap (decided g) (all_seen_kept g.reads d s h)

-- the exit that is taken stays where the change spares what the conditions read
exit_kept : {P : Type 0} (es : List (Exit P)) (d : Change) (s : Memories) → Spares (SomeExitTouches es) d → first_exit es (apply d s) ≡ first_exit es s
exit_kept [] d s h = refl
exit_kept (e ∷ es) d s h =
    let p = passed_kept e.when d s (λ a t. h a (inl t)) in
    let q = exit_kept es d s (λ a t. h a (inr t)) in
    λ i. or_later (p i) e (q i)

-- a leaf's move stays where the change spares what it touches
leaf_kept : {P : Type 0} (place : P) (w : Leaf) (d : Change) (s : Memories) → Spares (LeafTouches w) d → leaf_move place w (apply d s) ≡ leaf_move place w s
leaf_kept place (reading b [] values eval) d s h = refl
leaf_kept place (reading b (r ∷ rs) values eval) d s h =
    ap (λ v. read_move place (not b) v rs values eval) (seen_kept r d s (λ a t. h a (inl (inl t))))
leaf_kept place (doing []) d s h = refl
leaf_kept place (doing (write_value v to by ∷ es)) d s h = refl
leaf_kept place (doing (transfer from to by ∷ es)) d s h =
    ap (λ v. write_move place v to by es) (seen_kept from d s (λ a t. h a (inl (inl t))))
leaf_kept place (doing (push_to l c v ∷ es)) d s h = refl

-- ---- the next moves

mutual
  -- the next moves of work are the same after a change that it does not see
  pub moves-apply : {P : Type 0} (t : Term P) (d : Change) → SparesWork t d → (s : Memories) → moves t (apply d s) ≡ moves t s
  moves-apply (leaf place work) d h s = refl
  moves-apply (list kind before parts) d h s = moves_parts before (flags_of parts) 0 parts d h s
  moves-apply (owning own part) d h s =
      ap (moves part) (sym (apply-inner d own s)) ∙ moves-apply part (inner_change d) (spares_inside (Touches part) d h) (own ∷ s)
  moves-apply (nested body exits own state values part) d h s =
      ap (cond (finished part) ([] ∷ []))
      (ap (moves part) (sym (apply-inner d own s)) ∙ moves-apply part (inner_change d) (spares_inside (Touches part) d (λ a t. h a (inl t))) (own ∷ s))
  moves-apply (ended own) d h s = refl
  moves-apply (pool l c body active closed) d h s =
      let e = moves_active 0 active d (λ a t. h a (inr (inl t))) s in
      let e' = waiting-apply l c d (h (takes l c) (inl refl)) s in
      λ i. cond closed [] (moves_in 1 (e i) ++ takes_from 0 (e' i))

  -- the same of the parts of a list
  moves_parts : {P : Type 0} (before : ℕ → ℕ → Bool) (fs : List Bool) (n : ℕ) (ts : Terms P) (d : Change) → Spares (SomePartTouches ts) d → (s : Memories) →
      moves_of_parts before fs n ts (apply d s) ≡ moves_of_parts before fs n ts s
  moves_parts before fs n none d h s = refl
  moves_parts before fs n (also t ts) d h s =
      let e = moves-apply t d (λ a u. h a (inl u)) s in
      let e' = moves_parts before fs (suc n) ts d (λ a u. h a (inr u)) s in
      λ i. cond (is_ready before fs n) (moves_in n (e i)) [] ++ e' i

  -- and of the active terms of a pool
  moves_active : {P : Type 0} (n : ℕ) (ts : Actives P) (d : Change) → Spares (SomeActiveTouches ts) d → (s : Memories) → moves_of_active n ts (apply d s) ≡ moves_of_active n ts s
  moves_active n idle d h s = refl
  moves_active n (busy value t ts) d h s =
      let e = moves-apply t d (λ a u. h a (inl u)) s in
      let e' = moves_active (suc n) ts d (λ a u. h a (inr u)) s in
      λ i. moves_in n (e i) ++ e' i

-- ---- each move

mutual
  -- a move of work is the same after a change that it does not see
  pub fire-apply : {P : Type 0} (t : Term P) (d : Change) → SparesWork t d → (path : Path) (s : Memories) → fire t path (apply d s) ≡ fire t path s
  fire-apply (leaf place work) d h path s = ap (map_move (leaf place)) (leaf_kept place work d s h)
  fire-apply (list kind before parts) d h [] s = refl
  fire-apply (list kind before parts) d h (n ∷ path) s = ap (map_move (list kind before)) (fire_parts parts d h n path s)
  fire-apply (owning own part) d h path s =
      ap (owned owning own) (ap (fire part path) (sym (apply-inner d own s)) ∙ fire-apply part (inner_change d) (spares_inside (Touches part) d h) path (own ∷ s))
  fire-apply (nested body exits own state values part) d h path s =
      let e = ap (first_exit (exits state values)) (sym (apply-inner d own s))
      ∙ exit_kept (exits state values) (inner_change d) (own ∷ s) (spares_inside (SomeExitTouches (exits state values)) d (λ a t. h a (inr (inr (state, values, t))))) in
      let e' = ap (fire part path) (sym (apply-inner d own s)) ∙ fire-apply part (inner_change d) (spares_inside (Touches part) d (λ a t. h a (inl t))) path (own ∷ s) in
      λ i. cond (finished part) (transition body exits own (e i)) (owned (λ memory left. nested body exits memory state values left) own (e' i))
  fire-apply (ended own) d h path s = refl
  fire-apply (pool l c body active closed) d h [] s = refl
  fire-apply (pool l c body active closed) d h (zero ∷ []) s = refl
  fire-apply (pool l c body active closed) d h (zero ∷ position ∷ path) s =
      ap (λ values. take_move l c body active closed position (slice_get values position)) (waiting-apply l c d (h (takes l c) (inl refl)) s)
  fire-apply (pool l c body active closed) d h (suc n ∷ []) s = refl
  fire-apply (pool l c body active closed) d h (suc n ∷ number ∷ path) s =
      ap (map_move (λ left. pool l c body left closed)) (fire_actives active d (λ a t. h a (inr (inl t))) number path s)

  -- the same in a part of a list
  fire_parts : {P : Type 0} (ts : Terms P) (d : Change) → Spares (SomePartTouches ts) d → (n : ℕ) (path : Path) (s : Memories) → fire_part ts n path (apply d s) ≡ fire_part ts n path s
  fire_parts none d h n path s = refl
  fire_parts (also t ts) d h zero path s = ap (map_move (λ left. also left ts)) (fire-apply t d (λ a u. h a (inl u)) path s)
  fire_parts (also t ts) d h (suc n) path s = ap (map_move (also t)) (fire_parts ts d (λ a u. h a (inr u)) n path s)

  -- and in an active term of a pool
  fire_actives : {P : Type 0} (ts : Actives P) (d : Change) → Spares (SomeActiveTouches ts) d → (n : ℕ) (path : Path) (s : Memories) → fire_active ts n path (apply d s) ≡ fire_active ts n path s
  fire_actives idle d h n path s = refl
  fire_actives (busy value t ts) d h zero path s = ap (map_move (λ left. busy value left ts)) (fire-apply t d (λ a u. h a (inl u)) path s)
  fire_actives (busy value t ts) d h (suc n) path s = ap (map_move (busy value t)) (fire_actives ts d (λ a u. h a (inr u)) n path s)
