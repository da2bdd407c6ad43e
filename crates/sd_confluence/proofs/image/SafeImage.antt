-- The image of safe work is safe.
use Rattle.std.proofs.Common.{◌≡◌, ℕ, zero, suc, ℤ, Bool, true, false, cond, refl, subst, inl, inr, ◌⊎◌}
use Rattle.sd_work.specs.Residual.{Term, leaf, list, owning, nested, ended, pool, Terms, none, also, part_at, Actives, idle, busy}
use Rattle.sd_work.specs.Touch.{Touch, inner, Touches, SomePartTouches, SomeActiveTouches, PoolTouches}
use Rattle.std.specs.Ordering.{int_eq}
use Rattle.sd_confluence.specs.Safe.{IsSafe, AreSafe, AreActiveSafe}
use Rattle.sd_confluence.proofs.bags.Works.{and_work}
use Rattle.sd_confluence.proofs.bags.WorkTouches.{WorkTouches, SomeWork, work_at, Safe, AllSafe, safe_put}
use Rattle.sd_confluence.proofs.image.Images.{work_of, works_of, active_of}

mutual
  -- what the image touches, the term touches
  pub touches-back : {P : Type 0} (t : Term P) (a : Touch) → WorkTouches (work_of t) a → Touches t a
  touches-back (leaf place work) a h = h
  touches-back (list kind before parts) a h = parts_back parts a h
  touches-back (owning own part) a h = touches-back part (inner a) h
  touches-back (nested body exits own state values part) a (inl h) = inl (touches-back part (inner a) h)
  touches-back (nested body exits own state values part) a (inr (inl h)) = inr (inl (h.0, h.1, touches-back (body h.0 h.1) (inner a) h.2))
  touches-back (nested body exits own state values part) a (inr (inr h)) = inr (inr h)
  touches-back (ended own) a h = h
  touches-back (pool l c body active closed) a (inl h) = inl h
  touches-back (pool l c body active closed) a (inr (inl h)) = inr (inl (active_back active h.0 a h.1))
  touches-back (pool l c body active closed) a (inr (inr h)) = inr (inr (h.0, touches-back (body h.0) a h.1))

  parts_back : {P : Type 0} (ts : Terms P) (a : Touch) → SomeWork (works_of ts) a → SomePartTouches ts a
  parts_back none a h = h
  parts_back (also t ts) a (inl h) = inl (touches-back t a h)
  parts_back (also t ts) a (inr h) = inr (parts_back ts a h)

  active_back : {P : Type 0} (ts : Actives P) (v : ℤ) (a : Touch) → SomeWork (active_of ts v) a → SomeActiveTouches ts a
  active_back idle v a h = h
  active_back {P} (busy w t ts) v a h = go (int_eq w v) h (λ g. touches-back t a g) (λ g. active_back ts v a g)
    where
      go : (b : Bool) → SomeWork (cond b (and_work (work_of t) (active_of ts v)) (active_of ts v)) a → (WorkTouches (work_of t) a → Touches t a) → (SomeWork (active_of ts v) a → SomeActiveTouches ts a) → Touches t a ⊎ SomeActiveTouches ts a
      go true (inl g) f k = inl (f g)
      go true (inr g) f k = inr (k g)
      go false g f k = inr (k g)

pub work_at-image : {P : Type 0} (ts : Terms P) (i : ℕ) → work_at (works_of ts) i ≡ work_of (part_at ts i)
work_at-image none i = refl
work_at-image (also t ts) zero = refl
work_at-image (also t ts) (suc i) = work_at-image ts i

pool_back : {P : Type 0} (body : ℤ → Term P) (active : Actives P) (a : Touch) → ((v : ℤ) × SomeWork (active_of active v) a) ⊎ ((v : ℤ) × WorkTouches (work_of (body v)) a) → PoolTouches body active a
pool_back body active a (inl h) = inl (active_back active h.0 a h.1)
pool_back body active a (inr h) = inr (h.0, touches-back (body h.0) a h.1)

mutual
  pub safe-image : {P : Type 0} (t : Term P) → IsSafe t → Safe (work_of t)
  safe-image (leaf place work) f = tt
  safe-image (list kind before parts) f = (
    safe_parts parts f.0,
    λ i j up e a b ta tb. f.1.compatible i j up e a b
        (touches-back (part_at parts i) a (subst (λ w. WorkTouches w a) (work_at-image parts i) ta))
        (touches-back (part_at parts j) b (subst (λ w. WorkTouches w b) (work_at-image parts j) tb)),
  )
  safe-image (owning own part) f = safe-image part f
  safe-image (nested body exits own state values part) f = (safe-image part f.0, λ k e. safe-image (body k e) (f.1 k e))
  safe-image (ended own) f = tt
  safe-image (pool l c body active closed) f =
      (λ v. safe_active active v f.0, λ v. safe-image (body v) (f.1 v), λ a b ta tb. f.2 a b (pool_back body active a ta) (pool_back body active b tb))

  safe_parts : {P : Type 0} (ts : Terms P) → AreSafe ts → AllSafe (works_of ts)
  safe_parts none f = tt
  safe_parts (also t ts) f = (safe-image t f.0, safe_parts ts f.1)

  safe_active : {P : Type 0} (ts : Actives P) (v : ℤ) → AreActiveSafe ts → AllSafe (active_of ts v)
  safe_active idle v f = tt
  safe_active (busy w t ts) v f = safe_put (int_eq w v) (and_work (work_of t) (active_of ts v)) (active_of ts v) (safe-image t f.0, safe_active ts v f.1) (safe_active ts v f.1)
