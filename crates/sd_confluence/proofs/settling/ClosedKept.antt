-- A next move leaves each closed pool without an active term.
use Rattle.std.proofs.Common.{◌≡◌, ℕ, zero, suc, ℤ, [], ◌∷◌, Bool, true, false, cond, sym, ◌∙◌, slice_get}
use Rattle.sd_work.specs.Memory.{Memories, waiting}
use Rattle.sd_work.specs.Move.{Move}
use Rattle.sd_work.specs.LeafMove.{leaf_move}
use Rattle.sd_work.specs.Exit.{first_exit}
use Rattle.sd_work.specs.Residual.{Term, leaf, list, owning, nested, ended, pool, Terms, none, also, Actives, idle, busy, finished, none_active}
use Rattle.sd_work.specs.Moves.{Path}
use Rattle.sd_work.specs.Fire.{owned, transition, and_last, fire, fire_part, fire_active}
use Rattle.sd_work.proofs.Leaving.{Leaves, leaves_any, leaves_map, leaves_owned, leaves_transition, leaves_take}
use Rattle.sd_confluence.specs.Safe.{IsSafe, AreSafe, AreActiveSafe}
use Rattle.sd_confluence.proofs.image.Images.{IsNext, IsNextAt, IsNextIn, IsNextHere}
use Rattle.sd_confluence.proofs.settling.ClosedPools.{ClosedAreIdle, AllClosedAreIdle, ActiveClosedAreIdle}

idle_last : {P : Type 0} (active : Actives P) (v : ℤ) (t : Term P) → ActiveClosedAreIdle active → ClosedAreIdle t → ActiveClosedAreIdle (and_last active v t)
idle_last idle v t a w = (w, tt)
idle_last (busy x u us) v t a w = (a.0, idle_last us v t a.1 w)

open_still : (closed : Bool) (F : Type 0) → closed ≡ false → closed ≡ true → F
open_still closed F o e = let no : true ≡ false = sym e ∙ o in cc

nested_idle : {P : Type 0} (b : Bool) (p : Path) (C : Type 0) (m n : Move P (Term P)) → Leaves ClosedAreIdle m → (C → Leaves ClosedAreIdle n) → IsNextHere b p C → Leaves ClosedAreIdle (cond b m n)
nested_idle true p C m n g h c = g
nested_idle false p C m n g h c = h c

mutual
  pub closed-kept : {P : Type 0} (t : Term P) (p : Path) (s : Memories) → IsNext t p s → ClosedAreIdle t → Leaves ClosedAreIdle (fire t p s)
  closed-kept (leaf place work) p s c w = leaves_any (leaf place) ClosedAreIdle (λ x. tt) (leaf_move place work s)
  closed-kept (list kind before parts) [] s c w = tt
  closed-kept (list kind before parts) (k ∷ p) s c w = leaves_map (list kind before) AllClosedAreIdle ClosedAreIdle (λ x g. g) (fire_part parts k p s) (closed_part parts k p s c.1 w)
  closed-kept (owning own part) p s c w = leaves_owned ClosedAreIdle ClosedAreIdle owning own (λ f x g. g) (fire part p (own ∷ s)) (closed-kept part p (own ∷ s) c w)
  closed-kept (nested body exits own state values part) p s c w =
      nested_idle (finished part) p (IsNext part p (own ∷ s)) (transition body exits own (first_exit (exits state values) (own ∷ s))) (owned (λ memory left. nested body exits memory state values left) own (fire part p (own ∷ s)))
      (leaves_transition ClosedAreIdle body exits own tt (λ k e. (w.1 k e, w.1)) (first_exit (exits state values) (own ∷ s)))
      (λ d. leaves_owned ClosedAreIdle ClosedAreIdle (λ f x. nested body exits f state values x) own (λ f x g. (g, w.1)) (fire part p (own ∷ s)) (closed-kept part p (own ∷ s) d w.0)) c
  closed-kept (ended own) p s c w = tt
  closed-kept (pool level container body active closed) [] s c w = tt
  closed-kept (pool level container body active closed) (zero ∷ []) s c w = tt
  closed-kept (pool level container body active closed) (zero ∷ k ∷ p) s c w =
      leaves_take ClosedAreIdle level container body active closed (λ v. (idle_last active v (body v) w.0 (w.1 v), w.1, open_still closed (none_active (and_last active v (body v)) ≡ true) c.0)) k (slice_get (waiting level container s) k)
  closed-kept (pool level container body active closed) (suc zero ∷ []) s c w = tt
  closed-kept (pool level container body active closed) (suc zero ∷ k ∷ p) s c w =
      leaves_map (λ x. pool level container body x closed) ActiveClosedAreIdle ClosedAreIdle (λ x g. (g, w.1, open_still closed (none_active x ≡ true) c.0)) (fire_active active k p s) (closed_active active k p s c.1 w.0)
  closed-kept (pool level container body active closed) (suc (suc j) ∷ p) s c w = elim c [ ]

  closed_part : {P : Type 0} (ts : Terms P) (k : ℕ) (p : Path) (s : Memories) → IsNextAt ts k p s → AllClosedAreIdle ts → Leaves AllClosedAreIdle (fire_part ts k p s)
  closed_part none k p s c w = tt
  closed_part (also t ts) zero p s c w = leaves_map (λ x. also x ts) ClosedAreIdle AllClosedAreIdle (λ x g. (g, w.1)) (fire t p s) (closed-kept t p s c w.0)
  closed_part (also t ts) (suc k) p s c w = leaves_map (λ x. also t x) AllClosedAreIdle AllClosedAreIdle (λ x g. (w.0, g)) (fire_part ts k p s) (closed_part ts k p s c w.1)

  closed_active : {P : Type 0} (ts : Actives P) (k : ℕ) (p : Path) (s : Memories) → IsNextIn ts k p s → ActiveClosedAreIdle ts → Leaves ActiveClosedAreIdle (fire_active ts k p s)
  closed_active idle k p s c w = tt
  closed_active (busy v t ts) zero p s c w = leaves_map (λ x. busy v x ts) ClosedAreIdle ActiveClosedAreIdle (λ x g. (g, w.1)) (fire t p s) (closed-kept t p s c w.0)
  closed_active (busy v t ts) (suc k) p s c w = leaves_map (λ x. busy v t x) ActiveClosedAreIdle ActiveClosedAreIdle (λ x g. (w.0, g)) (fire_active ts k p s) (closed_active ts k p s c w.1)

mutual
  -- in safe work no closed pool has an active term
  pub closed-safe : {P : Type 0} (t : Term P) → IsSafe t → ClosedAreIdle t
  closed-safe (leaf place work) f = tt
  closed-safe (list kind before parts) f = closed_parts parts f.0
  closed-safe (owning own part) f = closed-safe part f
  closed-safe (nested body exits own state values part) f = (closed-safe part f.0, λ k e. closed-safe (body k e) (f.1 k e))
  closed-safe (ended own) f = tt
  closed-safe (pool level container body active closed) f = (closed_actives active f.0, λ v. closed-safe (body v) (f.1 v), f.3)

  closed_parts : {P : Type 0} (ts : Terms P) → AreSafe ts → AllClosedAreIdle ts
  closed_parts none f = tt
  closed_parts (also t ts) f = (closed-safe t f.0, closed_parts ts f.1)

  closed_actives : {P : Type 0} (ts : Actives P) → AreActiveSafe ts → ActiveClosedAreIdle ts
  closed_actives idle f = tt
  closed_actives (busy v t ts) f = (closed-safe t f.0, closed_actives ts f.1)
