-- What the moves of work keep: what it touches at most, and that no later point takes from outside.
use Rattle.std.proofs.Common.{◌≡◌, ℕ, zero, suc, ℤ, List, [], ◌∷◌, Option, Some, None, Result, Ok, Err, not, refl, inl, inr, ◌⊎◌, slice_get}
use Rattle.sd_num.specs.declared.resolution.Resolution.{Resolution}
use Rattle.sd_work.specs.declared.fault.FaultKind.{FaultKind}
use Rattle.sd_work.specs.Memory.{Memories, Reference, seen, waiting}
use Rattle.sd_work.specs.Leaf.{Pending, write_value, transfer, push_to, Leaf, reading, doing}
use Rattle.sd_work.specs.LeafMove.{write_move, read_move, evaluation_move, leaf_move, do_move}
use Rattle.sd_work.specs.Exit.{first_exit}
use Rattle.sd_work.specs.Residual.{Term, leaf, list, owning, nested, ended, pool, Terms, none, also, part_at, Actives, idle, busy, finished}
use Rattle.sd_work.specs.Moves.{Path}
use Rattle.sd_work.specs.Fire.{and_last, fire, fire_part, fire_active}
use Rattle.sd_work.specs.Touch.{Touch, takes, inner, LeafTouches, Touches, SomePartTouches, SomeActiveTouches}
use Rattle.sd_work.proofs.Leaving.{Leaves, leaves_any, leaves_map, leaves_so, leaves_both, leaves_owned, leaves_cond, leaves_transition, leaves_take}
use Rattle.sd_confluence.specs.Safe.{TakesNothingOutside}
use Rattle.sd_confluence.proofs.settling.Waits.{Waits, AllWait, ActiveWait}

-- nothing is touched by the one that the other does not touch
abbrev pub TouchesAtMost : {P : Type 0} → Term P → Term P → Type 0
TouchesAtMost t x = (a : Touch) → Touches x a → Touches t a

abbrev pub AtMostParts : {P : Type 0} → Terms P → Terms P → Type 0
AtMostParts ts us = (k : ℕ) (a : Touch) → Touches (part_at us k) a → Touches (part_at ts k) a

abbrev pub AtMostActive : {P : Type 0} → Actives P → Actives P → Type 0
AtMostActive ts us = (a : Touch) → SomeActiveTouches us a → SomeActiveTouches ts a

abbrev AtMostLeaf : Leaf → Leaf → Type 0
AtMostLeaf w x = (a : Touch) → LeafTouches x a → LeafTouches w a

write_less : {P : Type 0} (place : P) (v : Option ℤ) (to : Option Reference) (by : Option Resolution) (left : List Pending) (H : Leaf → Type 0) → H (doing left) → Leaves H (write_move place v to by left)
write_less place None to by left H h = tt
write_less place (Some v) None by left H h = tt
write_less place (Some v) (Some to) by left H h = h

do_less : {P : Type 0} (place : P) (next : Pending) (s : Memories) (left : List Pending) (H : Leaf → Type 0) → H (doing left) → Leaves H (do_move place next s left)
do_less place (write_value v to by) s left H h = write_less place (Some v) to by left H h
do_less place (transfer from to by) s left H h = write_less place (seen from s) to by left H h
do_less place (push_to l c v) s left H h = h

leaf_less : {P : Type 0} (place : P) (w : Leaf) (s : Memories) → Leaves (AtMostLeaf w) (leaf_move place w s)
leaf_less {P} place (reading begun [] values evaluation) s = go (evaluation values) refl
  where
    go : (r : Result (List Pending) FaultKind) → evaluation values ≡ r → Leaves (AtMostLeaf (reading begun [] values evaluation)) (evaluation_move place (not begun) r)
    go (Err kind) e = tt
    go (Ok effects) e = λ a h. inr (values, effects, e, h)
leaf_less {P} place (reading begun (next ∷ left) values evaluation) s = go (seen next s)
  where
    go : (o : Option ℤ) → Leaves (AtMostLeaf (reading begun (next ∷ left) values evaluation)) (read_move place (not begun) o left values evaluation)
    go None = tt
    go (Some v) = λ a h. elim h [ inl x ↦ inl (inr x) | inr x ↦ inr x ]
leaf_less place (doing []) s = tt
leaf_less place (doing (next ∷ left)) s = do_less place next s left (AtMostLeaf (doing (next ∷ left))) (λ a h. inr h)

-- a part of a list is one of its parts
some_part : {P : Type 0} (ts : Terms P) (k : ℕ) (a : Touch) → Touches (part_at ts k) a → SomePartTouches ts a
some_part none k a h = h
some_part (also t ts) zero a h = inl h
some_part (also t ts) (suc k) a h = inr (some_part ts k a h)

part_of_some : {P : Type 0} (us : Terms P) (a : Touch) (C : Type 0) → ((k : ℕ) → Touches (part_at us k) a → C) → SomePartTouches us a → C
part_of_some none a C f h = elim h [ ]
part_of_some (also t us) a C f h = elim h [ inl x ↦ f 0 x | inr x ↦ part_of_some us a C (λ k. f (suc k)) x ]

-- one more active term adds only its own touches
pub less_last : {P : Type 0} (active : Actives P) (v : ℤ) (t : Term P) (a : Touch) → SomeActiveTouches (and_last active v t) a → SomeActiveTouches active a ⊎ Touches t a
less_last idle v t a h = elim h [ inl x ↦ inr x | inr x ↦ inl x ]
less_last (busy w u us) v t a h = elim h [ inl x ↦ inl (inl x) | inr x ↦ elim (less_last us v t a x) [ inl y ↦ inl (inr y) | inr y ↦ inr y ] ]

first_less : {P : Type 0} (t x : Term P) (ts : Terms P) → TouchesAtMost t x → AtMostParts (also t ts) (also x ts)
first_less t x ts g zero a h = g a h
first_less t x ts g (suc k) a h = h

later_less : {P : Type 0} (t : Term P) (ts us : Terms P) → AtMostParts ts us → AtMostParts (also t ts) (also t us)
later_less t ts us g zero a h = h
later_less t ts us g (suc k) a h = g k a h

mutual
  -- what a move leaves touches nothing that was not touched before
  pub touches-kept : {P : Type 0} (t : Term P) (p : Path) (s : Memories) → Leaves (TouchesAtMost t) (fire t p s)
  touches-kept (leaf place work) p s = leaves_map (leaf place) (AtMostLeaf work) (TouchesAtMost (leaf place work)) (λ x g. g) (leaf_move place work s) (leaf_less place work s)
  touches-kept (list kind before parts) [] s = tt
  touches-kept (list kind before parts) (k ∷ p) s =
      leaves_map (list kind before) (AtMostParts parts) (TouchesAtMost (list kind before parts)) (λ x g a h. part_of_some x a (SomePartTouches parts a) (λ k y. some_part parts k a (g k a y)) h)
      (fire_part parts k p s) (parts_kept parts k p s)
  touches-kept (owning own part) p s = leaves_owned (TouchesAtMost part) (TouchesAtMost (owning own part)) owning own (λ f x g a h. g (inner a) h) (fire part p (own ∷ s)) (touches-kept part p (own ∷ s))
  touches-kept {P} (nested body exits own state values part) p s =
      leaves_cond (TouchesAtMost (nested body exits own state values part)) (finished part) _ _
      (leaves_transition (TouchesAtMost (nested body exits own state values part)) body exits own (λ a h. elim h [ ])
      (λ k e a h. elim h [ inl x ↦ inr (inl (k, e, x)) | inr x ↦ inr x ]) (first_exit (exits state values) (own ∷ s)))
      (leaves_owned (TouchesAtMost part) (TouchesAtMost (nested body exits own state values part)) (λ f x. nested body exits f state values x) own
      (λ f x g a h. elim h [ inl y ↦ inl (g (inner a) y) | inr y ↦ inr y ]) (fire part p (own ∷ s)) (touches-kept part p (own ∷ s)))
  touches-kept (ended own) p s = tt
  touches-kept (pool level container body active closed) [] s = tt
  touches-kept (pool level container body active closed) (zero ∷ []) s = tt
  touches-kept (pool level container body active closed) (zero ∷ k ∷ p) s =
      leaves_take (TouchesAtMost (pool level container body active closed)) level container body active closed (λ v a h. elim h [ inl e ↦ inl e | inr y ↦ elim y [ inl x ↦ elim (less_last active v (body v) a x) [ inl z ↦ inr (inl z) | inr z ↦ inr (inr (v, z)) ] | inr x ↦ inr (inr x) ] ]) k
      (slice_get (waiting level container s) k)
  touches-kept (pool level container body active closed) (suc n ∷ []) s = tt
  touches-kept (pool level container body active closed) (suc n ∷ k ∷ p) s =
      leaves_map (λ x. pool level container body x closed) (AtMostActive active) (TouchesAtMost (pool level container body active closed))
      (λ x g a h. elim h [ inl e ↦ inl e | inr y ↦ elim y [ inl z ↦ inr (inl (g a z)) | inr z ↦ inr (inr z) ] ]) (fire_active active k p s) (active_kept active k p s)

  pub parts_kept : {P : Type 0} (ts : Terms P) (k : ℕ) (p : Path) (s : Memories) → Leaves (AtMostParts ts) (fire_part ts k p s)
  parts_kept none k p s = tt
  parts_kept (also t ts) zero p s = leaves_map (λ x. also x ts) (TouchesAtMost t) (AtMostParts (also t ts)) (λ x g. first_less t x ts g) (fire t p s) (touches-kept t p s)
  parts_kept (also t ts) (suc k) p s = leaves_map (λ x. also t x) (AtMostParts ts) (AtMostParts (also t ts)) (λ x g. later_less t ts x g) (fire_part ts k p s) (parts_kept ts k p s)

  pub active_kept : {P : Type 0} (ts : Actives P) (k : ℕ) (p : Path) (s : Memories) → Leaves (AtMostActive ts) (fire_active ts k p s)
  active_kept idle k p s = tt
  active_kept (busy v t ts) zero p s =
      leaves_map (λ x. busy v x ts) (TouchesAtMost t) (AtMostActive (busy v t ts)) (λ x g a h. elim h [ inl y ↦ inl (g a y) | inr y ↦ inr y ]) (fire t p s) (touches-kept t p s)
  active_kept (busy v t ts) (suc k) p s =
      leaves_map (λ x. busy v t x) (AtMostActive ts) (AtMostActive (busy v t ts)) (λ x g a h. elim h [ inl y ↦ inl y | inr y ↦ inr (g a y) ]) (fire_active ts k p s) (active_kept ts k p s)

-- a part from which nothing outside is taken stays so
pub takes-nothing-kept : {P : Type 0} (t : Term P) (p : Path) (s : Memories) → TakesNothingOutside t → Leaves TakesNothingOutside (fire t p s)
takes-nothing-kept t p s n = leaves_so (TouchesAtMost t) TakesNothingOutside (λ x g l c h. n l c (g (takes l c) h)) (fire t p s) (touches-kept t p s)

waits_last : {P : Type 0} (active : Actives P) (v : ℤ) (t : Term P) → ActiveWait active → Waits t → ActiveWait (and_last active v t)
waits_last idle v t a w = (w, tt)
waits_last (busy x u us) v t a w = (a.0, waits_last us v t a.1 w)

mutual
  -- in each list of points that a move leaves no later point takes from a stream outside of it
  pub waits-kept : {P : Type 0} (t : Term P) (p : Path) (s : Memories) → Waits t → Leaves Waits (fire t p s)
  waits-kept (leaf place work) p s w = leaves_any (leaf place) Waits (λ x. tt) (leaf_move place work s)
  waits-kept (list kind before parts) [] s w = tt
  waits-kept (list kind before parts) (k ∷ p) s w =
      leaves_map (list kind before) (λ x. AllWait x × AtMostParts parts x) Waits
      (λ x g. (g.0, λ e i j a b l c h. w.1 e i j a b l c (g.1 j (takes l c) h)))
      (fire_part parts k p s) (leaves_both AllWait (AtMostParts parts) (fire_part parts k p s) (waits_part parts k p s w.0) (parts_kept parts k p s))
  waits-kept (owning own part) p s w = leaves_owned Waits Waits owning own (λ f x g. g) (fire part p (own ∷ s)) (waits-kept part p (own ∷ s) w)
  waits-kept (nested body exits own state values part) p s w =
      leaves_cond Waits (finished part) _ _ (leaves_transition Waits body exits own tt (λ k e. (w.1 k e, w.1)) (first_exit (exits state values) (own ∷ s)))
      (leaves_owned Waits Waits (λ f x. nested body exits f state values x) own (λ f x g. (g, w.1)) (fire part p (own ∷ s)) (waits-kept part p (own ∷ s) w.0))
  waits-kept (ended own) p s w = tt
  waits-kept (pool level container body active closed) [] s w = tt
  waits-kept (pool level container body active closed) (zero ∷ []) s w = tt
  waits-kept (pool level container body active closed) (zero ∷ k ∷ p) s w =
      leaves_take Waits level container body active closed (λ v. (waits_last active v (body v) w.0 (w.1 v), w.1)) k (slice_get (waiting level container s) k)
  waits-kept (pool level container body active closed) (suc n ∷ []) s w = tt
  waits-kept (pool level container body active closed) (suc n ∷ k ∷ p) s w =
      leaves_map (λ x. pool level container body x closed) ActiveWait Waits (λ x g. (g, w.1)) (fire_active active k p s) (waits_active active k p s w.0)

  waits_part : {P : Type 0} (ts : Terms P) (k : ℕ) (p : Path) (s : Memories) → AllWait ts → Leaves AllWait (fire_part ts k p s)
  waits_part none k p s w = tt
  waits_part (also t ts) zero p s w = leaves_map (λ x. also x ts) Waits AllWait (λ x g. (g, w.1)) (fire t p s) (waits-kept t p s w.0)
  waits_part (also t ts) (suc k) p s w = leaves_map (λ x. also t x) AllWait AllWait (λ x g. (w.0, g)) (fire_part ts k p s) (waits_part ts k p s w.1)

  waits_active : {P : Type 0} (ts : Actives P) (k : ℕ) (p : Path) (s : Memories) → ActiveWait ts → Leaves ActiveWait (fire_active ts k p s)
  waits_active idle k p s w = tt
  waits_active (busy v t ts) zero p s w = leaves_map (λ x. busy v x ts) Waits ActiveWait (λ x g. (g, w.1)) (fire t p s) (waits-kept t p s w.0)
  waits_active (busy v t ts) (suc k) p s w = leaves_map (λ x. busy v t x) ActiveWait ActiveWait (λ x g. (w.0, g)) (fire_active ts k p s) (waits_active ts k p s w.1)
