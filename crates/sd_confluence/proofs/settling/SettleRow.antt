-- Settling is a row of closings, each of them a next move when it is made.
use Rattle.std.proofs.Common.{◌≡◌, ℕ, zero, suc, ◌+◌, ◌<◌, List, [], ◌∷◌, ◌++◌, map, length, ℤ, Bool, true, false, not, ◌&&◌, ◌||◌, slice_index_or, refl, sym, ◌∙◌, ap, subst, arith, inl, inr}
use Rattle.sd_work.specs.Memory.{Memories, waiting}
use Rattle.sd_work.specs.Residual.{Parts, Points, Term, leaf, list, owning, nested, ended, pool, Terms, none, also, part_at, Actives, idle, busy, finished, none_active, flags_of, is_ready, ready_from, IsOrder}
use Rattle.sd_work.specs.Moves.{Path}
use Rattle.sd_work.specs.Touch.{takes, SomePartTouches, SomeActiveTouches}
use Rattle.sd_work.specs.Settle.{is_empty, is_first_left, settle, settle_parts, settle_active}
use Rattle.sd_work.specs.WellFormed.{IsOrdered, AreOrdered, AreActiveOrdered}
use Rattle.sd_work.proofs.left_to_right.Fronts.{◌⊕◌, count_of}
use Rattle.sd_work.proofs.left_to_right.LeftmostLists.{ready_late, plus_assoc, count_more}
use Rattle.sd_work.proofs.Flags.{both, both_true}
use Rattle.sd_work.proofs.left_to_right.LeftmostPools.{◌⊞◌, count_active, join_assoc}
use Rattle.sd_confluence.specs.Safe.{TakesNothingOutside}
use Rattle.sd_confluence.proofs.settling.Waits.{Clear, PointsWait, Waits, AllWait, ActiveWait, clear_part, clear_inside}
use Rattle.sd_confluence.proofs.settling.ClosedPools.{ClosedAreIdle, AllClosedAreIdle, ActiveClosedAreIdle, settle-false, settle_active-finished}
use Rattle.sd_confluence.proofs.settling.Closings.{close, close_part, close_active, MayClose, MayClosePart, MayCloseActive, Closings}

-- closings, and then more of them
pub closings_more : {P : Type 0} (k j : ℕ) (t t' t'' : Term P) (s : Memories) → Closings k t t' s → Closings j t' t'' s → (i : ℕ) × Closings i t t'' s
closings_more {P} zero j t t' t'' s a b = (j, subst (λ (w : Term P). Closings j w t'' s) (sym a) b)
closings_more (suc k) j t t' t'' s a b = let h = closings_more k j (close t a.0) t' t'' s a.2 b in (suc h.0, (a.0, a.1, h.1))

-- in a place of a larger term
module _ {P : Type 0} (make : Term P → Term P) (inner outer : Memories) (at : Path → Path)
    (can : (t : Term P) (p : Path) → MayClose t p inner → MayClose (make t) (at p) outer)
    (closes : (t : Term P) (p : Path) → close (make t) (at p) ≡ make (close t p)) where
  pub inside : (k : ℕ) (t t' : Term P) → Closings k t t' inner → Closings k (make t) (make t') outer
  inside zero t t' a = ap make a
  inside (suc k) t t' a = (at a.0, can t a.0 a.1, subst (λ (w : Term P). Closings k w (make t') outer) (sym (closes t a.0)) (inside k (close t a.0) t' a.2))

may_plus : {P : Type 0} (pre : Terms P) (t : Term P) (ts : Terms P) (p : Path) (s : Memories) → MayClose t p s → MayClosePart (◌⊕◌ pre (also t ts)) (count_of pre) p s
may_plus none t ts p s c = c
may_plus (also u pre) t ts p s c = may_plus pre t ts p s c

close_plus : {P : Type 0} (pre : Terms P) (t : Term P) (ts : Terms P) (p : Path) → close_part (◌⊕◌ pre (also t ts)) (count_of pre) p ≡ ◌⊕◌ pre (also (close t p) ts)
close_plus none t ts p = refl
close_plus (also u pre) t ts p = ap (also u) (close_plus pre t ts p)

ready_whole : {P : Type 0} (before : ℕ → ℕ → Bool) → IsOrder before → (j : ℕ) (pre ts : Terms P) (k : ℕ) → k ≡ j + count_of pre → ready_from before j (flags_of pre) k ≡ true → ready_from before j (flags_of (◌⊕◌ pre ts)) k ≡ true
ready_whole before o j none ts k e r = ready_late before o j k (flags_of ts) (omega arith)
ready_whole before o j (also t pre) ts k e r =
    let h = both (finished t || not (before j k)) (ready_from before (suc j) (flags_of pre) k) r in
    both_true (finished t || not (before j k)) (ready_from before (suc j) (flags_of (◌⊕◌ pre ts)) k) h.0 (ready_whole before o (suc j) pre ts k (omega arith) h.1)

flags_one : {P : Type 0} (pre : Terms P) (t : Term P) → flags_of (◌⊕◌ pre (also t none)) ≡ flags_of pre ++ finished t ∷ []
flags_one none t = refl
flags_one (also u pre) t = ap (λ bs. finished u ∷ bs) (flags_one pre t)

length_flags : {P : Type 0} (pre : Terms P) → length (flags_of pre) ≡ count_of pre
length_flags none = refl
length_flags (also t pre) = ap suc (length_flags pre)

-- a part in its turn
part_closes : {P : Type 0} (kind : Parts) (before : ℕ → ℕ → Bool) → IsOrder before → (pre ts : Terms P) (s : Memories) (k : ℕ) (t t' : Term P) → is_ready before (flags_of pre) (count_of pre) ≡ true → Closings k t t' s →
    Closings k (list kind before (◌⊕◌ pre (also t ts))) (list kind before (◌⊕◌ pre (also t' ts))) s
part_closes kind before o pre ts s k t t' r a =
    inside (λ x. list kind before (◌⊕◌ pre (also x ts))) s s (λ p. count_of pre ∷ p)
    (λ x p c. (ready_whole before o 0 pre (also x ts) (count_of pre) (omega arith) r, may_plus pre x ts p s c))
    (λ x p. ap (list kind before) (close_plus pre x ts p)) k t t' a

may_active : {P : Type 0} (pre : Actives P) (v : ℤ) (t : Term P) (ts : Actives P) (p : Path) (s : Memories) → MayClose t p s → MayCloseActive (◌⊞◌ pre (busy v t ts)) (count_active pre) p s
may_active idle v t ts p s c = c
may_active (busy w u pre) v t ts p s c = may_active pre v t ts p s c

close_in : {P : Type 0} (pre : Actives P) (v : ℤ) (t : Term P) (ts : Actives P) (p : Path) → close_active (◌⊞◌ pre (busy v t ts)) (count_active pre) p ≡ ◌⊞◌ pre (busy v (close t p) ts)
close_in idle v t ts p = refl
close_in (busy w u pre) v t ts p = ap (busy w u) (close_in pre v t ts p)

active_closes : {P : Type 0} (l c : ℕ) (body : ℤ → Term P) (pre : Actives P) (v : ℤ) (ts : Actives P) (s : Memories) (k : ℕ) (t t' : Term P) → Closings k t t' s →
    Closings k (pool l c body (◌⊞◌ pre (busy v t ts)) false) (pool l c body (◌⊞◌ pre (busy v t' ts)) false) s
active_closes l c body pre v ts s k t t' a =
    inside (λ x. pool l c body (◌⊞◌ pre (busy v x ts)) false) s s (λ p. count_active pre ∷ p) (λ x p d. (refl, may_active pre v x ts p s d))
    (λ x p. ap (λ us. pool l c body us false) (close_in pre v x ts p)) k t t' a

empty : (vs : List ℤ) → is_empty vs ≡ true → vs ≡ []
empty [] h = refl
empty (v ∷ vs) h = cc

-- the pool itself, last
closes_last : {P : Type 0} (l c : ℕ) (body : ℤ → Term P) (active : Actives P) (s : Memories) (b d e : Bool) → none_active active ≡ b → is_empty (waiting l c s) ≡ d → e ≡ true →
    (k : ℕ) × Closings k (pool l c body active false) (pool l c body active (b && (d && e))) s
closes_last l c body active s true true e f g h = (1, ([], (refl, f, empty (waiting l c s) g), ap (pool l c body active) (sym h)))
closes_last l c body active s true false e f g h = (0, refl)
closes_last l c body active s false d e f g h = (0, refl)

-- of the parts that come after this many, the later points take nothing where they need not wait
abbrev WaitAfter : {P : Type 0} → Parts → (ℕ → ℕ → Bool) → ℕ → Terms P → Type 0
WaitAfter kind before n ts = kind ≡ Points → (i j m : ℕ) → m ≡ n + j → i < m → before i m ≡ false → TakesNothingOutside (part_at ts j)

wait_all : {P : Type 0} (kind : Parts) (before : ℕ → ℕ → Bool) (ts : Terms P) → PointsWait kind before ts → WaitAfter kind before 0 ts
wait_all kind before ts w q i j m e h b = let same : m ≡ j = omega (arith, e) in subst (λ x. TakesNothingOutside (part_at ts x)) same (w q i m h b)

wait_later : {P : Type 0} (kind : Parts) (before : ℕ → ℕ → Bool) (pre : Terms P) (x t : Term P) (ts : Terms P) → WaitAfter kind before (count_of pre) (also t ts) → WaitAfter kind before (count_of (◌⊕◌ pre (also x none))) ts
wait_later kind before pre x t ts w q i j m e h b = w q i (suc j) m (omega (arith, e, count_more pre x)) h b

-- one part, if it is its turn, and then the others
module _ {P : Type 0} (kind : Parts) (before : ℕ → ℕ → Bool) (o : IsOrder before) (cleared : List Bool) (s : Memories) (pre : Terms P) (t : Term P) (ts : Terms P) where
  abbrev here : List Bool
  here = map (λ flag. is_first_left kind (flags_of pre) && flag) cleared

  abbrev after : Term P → Terms P
  after x = settle_parts true cleared s kind before (flags_of pre ++ finished x ∷ []) (suc (count_of pre)) ts

  from_part : (is_ready before (flags_of pre) (count_of pre) ≡ true → (k : ℕ) × Closings k t (settle true here s t) s) →
      ((x : Term P) → (k : ℕ) × Closings k (list kind before (◌⊕◌ (◌⊕◌ pre (also x none)) ts)) (list kind before (◌⊕◌ (◌⊕◌ pre (also x none)) (settle_parts true cleared s kind before (flags_of (◌⊕◌ pre (also x none))) (count_of (◌⊕◌ pre (also x none))) ts))) s) →
      (k : ℕ) × Closings k (list kind before (◌⊕◌ pre (also t ts))) (list kind before (◌⊕◌ pre (settle_parts true cleared s kind before (flags_of pre) (count_of pre) (also t ts)))) s
  from_part h later = go (is_ready before (flags_of pre) (count_of pre)) refl
    where
      rest : (x : Term P) → (k : ℕ) × Closings k (list kind before (◌⊕◌ pre (also x ts))) (list kind before (◌⊕◌ pre (also x (after x)))) s
      rest x =
          let g = later x in (
            g.0,
            subst (λ (y : Terms P). Closings g.0 (list kind before y) (list kind before (◌⊕◌ pre (also x (after x)))) s) (plus_assoc pre x ts)
                (subst (λ (y : Terms P). Closings g.0 (list kind before (◌⊕◌ (◌⊕◌ pre (also x none)) ts)) (list kind before y) s)
                (plus_assoc pre x (settle_parts true cleared s kind before (flags_of (◌⊕◌ pre (also x none))) (count_of (◌⊕◌ pre (also x none))) ts)
                ∙ (λ i. ◌⊕◌ pre (also x (settle_parts true cleared s kind before (flags_one pre x i) (count_more pre x i) ts)))) g.1),
          )

      go : (b : Bool) → is_ready before (flags_of pre) (count_of pre) ≡ b →
          (k : ℕ) × Closings k (list kind before (◌⊕◌ pre (also t ts))) (list kind before (◌⊕◌ pre (settle_parts true cleared s kind before (flags_of pre) (count_of pre) (also t ts)))) s
      go true r =
          let a = h r in
          let x : Term P = settle true here s t in
          let g = rest x in
          let m = closings_more a.0 g.0 (list kind before (◌⊕◌ pre (also t ts))) (list kind before (◌⊕◌ pre (also x ts))) (list kind before (◌⊕◌ pre (also x (after x)))) s (part_closes kind before o pre ts s a.0 t x r a.1) g.1 in
          (m.0, subst (λ b. Closings m.0 (list kind before (◌⊕◌ pre (also t ts))) (list kind before (◌⊕◌ pre (also (settle b here s t) (after (settle b here s t))))) s) (sym r) m.1)
      go false r =
          let g = rest t in
          let same : settle (is_ready before (flags_of pre) (count_of pre)) here s t ≡ t = ap (λ b. settle b here s t) r ∙ settle-false here s t in
          (g.0, subst (λ (x : Term P). Closings g.0 (list kind before (◌⊕◌ pre (also t ts))) (list kind before (◌⊕◌ pre (also x (after x)))) s) (sym same) g.1)

mutual
  -- settling is a row of closings
  pub settles : {P : Type 0} (t : Term P) (cleared : List Bool) (s : Memories) → IsOrdered t → Waits t → ClosedAreIdle t → Clear t cleared → (k : ℕ) × Closings k t (settle true cleared s t) s
  settles (leaf place work) cleared s o w z c = (0, refl)
  settles (list kind before parts) cleared s o w z c = settles_from kind before o.0 none parts cleared s o.1 w.0 z (wait_all kind before parts w.1) c
  settles (owning own part) cleared s o w z c =
      let h = settles part (true ∷ cleared) (own ∷ s) o w z (clear_inside part cleared c) in
      (h.0, inside (owning own) (own ∷ s) s (λ p. p) (λ x p d. d) (λ x p. refl) h.0 part (settle true (true ∷ cleared) (own ∷ s) part) h.1)
  settles (nested body exits own state values part) cleared s o w z c =
      let h = settles part (true ∷ cleared) (own ∷ s) o.0 w.0 z.0 (clear_inside part cleared (λ l d a. c l d (inl a))) in
      (h.0, inside (nested body exits own state values) (own ∷ s) s (λ p. p) (λ x p d. d) (λ x p. refl) h.0 part (settle true (true ∷ cleared) (own ∷ s) part) h.1)
  settles (ended own) cleared s o w z c = (0, refl)
  settles (pool l d body active true) cleared s o w z c = (0, ap (λ us. pool l d body us true) (sym (settle_active-finished true cleared s active z.0 (z.2 refl))))
  settles {P} (pool l d body active false) cleared s o w z c =
      let left : Actives P = settle_active true cleared s active in
      let h = settles_active l d body idle active cleared s o.0 w.0 z.0 (λ m e a. c m e (inr (inl a))) in
      let g = closes_last l d body left s (none_active left) (is_empty (waiting l d s)) (slice_index_or cleared l false) refl refl (c l d (inl refl)) in
      closings_more h.0 g.0 (pool l d body active false) (pool l d body left false) (settle true cleared s (pool l d body active false)) s h.1 g.1

  pub settles_from : {P : Type 0} (kind : Parts) (before : ℕ → ℕ → Bool) → IsOrder before → (pre ts : Terms P) (cleared : List Bool) (s : Memories) → AreOrdered ts → AllWait ts → AllClosedAreIdle ts →
      WaitAfter kind before (count_of pre) ts → ((l c : ℕ) → SomePartTouches ts (takes l c) → slice_index_or cleared l false ≡ true) →
      (k : ℕ) × Closings k (list kind before (◌⊕◌ pre ts)) (list kind before (◌⊕◌ pre (settle_parts true cleared s kind before (flags_of pre) (count_of pre) ts))) s
  settles_from kind before r pre none cleared s o w z a c = (0, refl)
  settles_from kind before r pre (also t ts) cleared s o w z a c =
      from_part kind before r cleared s pre t ts
      (λ e. settles t (map (λ flag. is_first_left kind (flags_of pre) && flag) cleared) s o.0 w.0 z.0
      (clear_part kind before (flags_of pre) (count_of pre) t cleared (length_flags pre) e (λ q i h b. a q i 0 (count_of pre) (omega arith) h b) (λ l d h. c l d (inl h))))
      (λ x. settles_from kind before r (◌⊕◌ pre (also x none)) ts cleared s o.1 w.1 z.1 (wait_later kind before pre x t ts a) (λ l d h. c l d (inr h)))

  pub settles_active : {P : Type 0} (l d : ℕ) (body : ℤ → Term P) (pre ts : Actives P) (cleared : List Bool) (s : Memories) → AreActiveOrdered ts → ActiveWait ts → ActiveClosedAreIdle ts →
      ((m c : ℕ) → SomeActiveTouches ts (takes m c) → slice_index_or cleared m false ≡ true) →
      (k : ℕ) × Closings k (pool l d body (◌⊞◌ pre ts) false) (pool l d body (◌⊞◌ pre (settle_active true cleared s ts)) false) s
  settles_active l d body pre idle cleared s o w z c = (0, refl)
  settles_active {P} l d body pre (busy v t ts) cleared s o w z c =
      let x : Term P = settle true cleared s t in
      let left : Actives P = settle_active true cleared s ts in
      let h = settles t cleared s o.0 w.0 z.0 (λ m e a. c m e (inl a)) in
      let g = settles_active l d body (◌⊞◌ pre (busy v x idle)) ts cleared s o.1 w.1 z.1 (λ m e a. c m e (inr a)) in
      let next : Closings g.0 (pool l d body (◌⊞◌ pre (busy v x ts)) false) (pool l d body (◌⊞◌ pre (busy v x left)) false) s =
      subst (λ (y : Actives P). Closings g.0 (pool l d body y false) (pool l d body (◌⊞◌ pre (busy v x left)) false) s) (join_assoc pre v x ts)
      (subst (λ (y : Actives P). Closings g.0 (pool l d body (◌⊞◌ (◌⊞◌ pre (busy v x idle)) ts) false) (pool l d body y false) s) (join_assoc pre v x left) g.1) in
      closings_more h.0 g.0 (pool l d body (◌⊞◌ pre (busy v t ts)) false) (pool l d body (◌⊞◌ pre (busy v x ts)) false) _ s (active_closes l d body pre v ts s h.0 t x h.1) next
