-- Of points that are not in order the later take nothing, so they may be settled before the earlier are finished.
use Rattle.std.proofs.Common.{◌≡◌, ℕ, zero, suc, ◌+◌, ◌<◌, ℤ, List, [], ◌∷◌, map, length, Bool, true, false, not, ◌&&◌, slice_index_or, refl, ◌∙◌, ap, arith}
use Rattle.std.specs.Bool.{⊤}
use Rattle.sd_work.specs.Exit.{Values}
use Rattle.sd_work.specs.Residual.{Parts, Items, Points, Term, leaf, list, owning, nested, ended, pool, Terms, none, also, part_at, Actives, idle, busy, ready_from, is_ready}
use Rattle.sd_work.specs.Touch.{takes, inner, Touches}
use Rattle.sd_work.specs.Settle.{all_true, is_first_left}
use Rattle.sd_work.proofs.Absorbing.{flag_joined}
use Rattle.sd_work.proofs.Flags.{both, not_true}
use Rattle.sd_confluence.specs.Safe.{TakesNothingOutside, IsSafe, AreSafe, AreActiveSafe}

-- the streams that this term takes from are cleared
abbrev pub Clear : {P : Type 0} → Term P → List Bool → Type 0
Clear t cleared = (level container : ℕ) → Touches t (takes level container) → slice_index_or cleared level false ≡ true

-- of two points of which neither is before the other, the later takes nothing
abbrev pub PointsWait : {P : Type 0} → Parts → (ℕ → ℕ → Bool) → Terms P → Type 0
PointsWait kind before parts = kind ≡ Points → (i j : ℕ) → i < j → before i j ≡ false → TakesNothingOutside (part_at parts j)

-- so it is in each list, also in what is unfolded later
abbrev mutual
  pub Waits : {P : Type 0} → Term P → Type 0
  Waits (leaf place work) = ⊤
  Waits (list kind before parts) = AllWait parts × PointsWait kind before parts
  Waits (owning own part) = Waits part
  Waits (nested body exits own state values part) = Waits part × ((state : ℕ) (values : Values) → Waits (body state values))
  Waits (ended own) = ⊤
  Waits (pool level container body active closed) = ActiveWait active × ((value : ℤ) → Waits (body value))

  pub AllWait : {P : Type 0} → Terms P → Type 0
  AllWait none = ⊤
  AllWait (also part parts) = Waits part × AllWait parts

  pub ActiveWait : {P : Type 0} → Actives P → Type 0
  ActiveWait idle = ⊤
  ActiveWait (busy value part active) = Waits part × ActiveWait active

mutual
  -- safe work waits
  pub waits-safe : {P : Type 0} (t : Term P) → IsSafe t → Waits t
  waits-safe (leaf place work) h = tt
  waits-safe (list kind before parts) h = (all-wait-safe parts h.0, h.1.points)
  waits-safe (owning own part) h = waits-safe part h
  waits-safe (nested body exits own state values part) h = (waits-safe part h.0, λ k e. waits-safe (body k e) (h.1 k e))
  waits-safe (ended own) h = tt
  waits-safe (pool level container body active closed) h = (active-wait-safe active h.0, λ v. waits-safe (body v) (h.1 v))

  all-wait-safe : {P : Type 0} (ts : Terms P) → AreSafe ts → AllWait ts
  all-wait-safe none h = tt
  all-wait-safe (also t ts) h = (waits-safe t h.0, all-wait-safe ts h.1)

  active-wait-safe : {P : Type 0} (ts : Actives P) → AreActiveSafe ts → ActiveWait ts
  active-wait-safe idle h = tt
  active-wait-safe (busy v t ts) h = (waits-safe t h.0, active-wait-safe ts h.1)

-- an unfinished part for which a ready one does not wait
unfinished : (before : ℕ → ℕ → Bool) (j k : ℕ) (bs : List Bool) → all_true bs ≡ false → ready_from before j bs k ≡ true → (i : ℕ) × (i < j + length bs) × (before i k ≡ false)
unfinished before j k [] e r = cc
unfinished before j k (true ∷ bs) e r = let h = unfinished before (suc j) k bs e r in (h.0, omega (arith, h.1), h.2)
unfinished before j k (false ∷ bs) e r = (j, omega arith, not_true (before j k) (both (not (before j k)) (ready_from before (suc j) bs k) r).0)

-- a ready part of a list has its streams cleared as the list has, for either all earlier points are finished or it takes nothing
pub clear_part : {P : Type 0} (kind : Parts) (before : ℕ → ℕ → Bool) (bs : List Bool) (k : ℕ) (t : Term P) (cleared : List Bool) → length bs ≡ k → is_ready before bs k ≡ true →
    (kind ≡ Points → (i : ℕ) → i < k → before i k ≡ false → TakesNothingOutside t) → Clear t cleared → Clear t (map (λ flag. is_first_left kind bs && flag) cleared)
clear_part Items before bs k t cleared n r w c = λ l d h. flag_joined true cleared l ∙ c l d h
clear_part Points before bs k t cleared n r w c = λ l d h. go l d h (all_true bs) refl
  where
    go : (l d : ℕ) → Touches t (takes l d) → (b : Bool) → all_true bs ≡ b → slice_index_or (map (λ flag. all_true bs && flag) cleared) l false ≡ true
    go l d h true e = flag_joined (all_true bs) cleared l ∙ ap (λ b. b && slice_index_or cleared l false) e ∙ c l d h
    go l d h false e =
        let u = unfinished before 0 k bs e r in
        let low : u.0 < k = omega (arith, u.1, n) in
        elim (w refl u.0 low u.2 l d h) [ ]

-- inside of an owner
pub clear_inside : {P : Type 0} (t : Term P) (cleared : List Bool) → ((l c : ℕ) → Touches t (inner (takes l c)) → slice_index_or cleared l false ≡ true) → Clear t (true ∷ cleared)
clear_inside t cleared h zero c a = refl
clear_inside t cleared h (suc l) c a = h l c a
