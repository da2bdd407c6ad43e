-- What settling keeps: it closes pools and changes nothing else.
use Rattle.std.proofs.Common.{ℕ, zero, suc, List, [], ◌∷◌, map, Bool, true, ◌&&◌, inl, inr}
use Rattle.sd_work.specs.Memory.{Memories}
use Rattle.sd_work.specs.Residual.{Parts, Term, leaf, list, owning, nested, ended, pool, Terms, none, also, part_at, Actives, idle, busy, is_ready}
use Rattle.sd_work.specs.Touch.{Touch, takes, inner, Touches, SomePartTouches, SomeActiveTouches}
use Rattle.sd_work.specs.Settle.{is_first_left, settle, settle_parts, settle_active}
use Rattle.sd_confluence.specs.Safe.{TakesNothingOutside}
use Rattle.sd_confluence.proofs.settling.Waits.{Waits, AllWait, ActiveWait}

mutual
  -- a settled term touches no more
  pub settle-touches : {P : Type 0} (go : Bool) (cleared : List Bool) (s : Memories) (t : Term P) (a : Touch) → Touches (settle go cleared s t) a → Touches t a
  settle-touches go cleared s (leaf place work) a h = h
  settle-touches go cleared s (list kind before parts) a h = settle_parts-touches go cleared s kind before [] 0 parts a h
  settle-touches go cleared s (owning own part) a h = settle-touches go (true ∷ cleared) (own ∷ s) part (inner a) h
  settle-touches go cleared s (nested body exits own state values part) a h =
      elim h [ inl b ↦ inl (settle-touches go (true ∷ cleared) (own ∷ s) part (inner a) b) | inr b ↦ inr b ]
  settle-touches go cleared s (ended own) a h = h
  settle-touches go cleared s (pool level container body active closed) a h =
      elim h [ inl b ↦ inl b | inr b ↦ inr (elim b [ inl d ↦ inl (settle_active-touches go cleared s active a d) | inr d ↦ inr d ]) ]

  pub settle_parts-touches : {P : Type 0} (go : Bool) (cleared : List Bool) (s : Memories) (kind : Parts) (before : ℕ → ℕ → Bool) (flags : List Bool) (number : ℕ) (ts : Terms P) (a : Touch) →
      SomePartTouches (settle_parts go cleared s kind before flags number ts) a → SomePartTouches ts a
  settle_parts-touches go cleared s kind before flags number none a h = h
  settle_parts-touches go cleared s kind before flags number (also t ts) a h =
      elim h [
        | inl b ↦ inl (settle-touches (go && is_ready before flags number) (map (λ flag. is_first_left kind flags && flag) cleared) s t a b)
        | inr b ↦ inr (settle_parts-touches go cleared s kind before _ (suc number) ts a b)
      ]

  pub settle_active-touches : {P : Type 0} (go : Bool) (cleared : List Bool) (s : Memories) (ts : Actives P) (a : Touch) → SomeActiveTouches (settle_active go cleared s ts) a → SomeActiveTouches ts a
  settle_active-touches go cleared s idle a h = h
  settle_active-touches go cleared s (busy v t ts) a h =
      elim h [ inl b ↦ inl (settle-touches go cleared s t a b) | inr b ↦ inr (settle_active-touches go cleared s ts a b) ]

-- no settled part touches more
pub part-touches : {P : Type 0} (go : Bool) (cleared : List Bool) (s : Memories) (kind : Parts) (before : ℕ → ℕ → Bool) (flags : List Bool) (number : ℕ) (ts : Terms P) (j : ℕ) (a : Touch) →
    Touches (part_at (settle_parts go cleared s kind before flags number ts) j) a → Touches (part_at ts j) a
part-touches go cleared s kind before flags number none j a h = h
part-touches go cleared s kind before flags number (also t ts) zero a h = settle-touches (go && is_ready before flags number) (map (λ flag. is_first_left kind flags && flag) cleared) s t a h
part-touches go cleared s kind before flags number (also t ts) (suc j) a h = part-touches go cleared s kind before _ (suc number) ts j a h

mutual
  -- a settled term waits
  pub waits-settled : {P : Type 0} (go : Bool) (cleared : List Bool) (s : Memories) (t : Term P) → Waits t → Waits (settle go cleared s t)
  waits-settled go cleared s (leaf place work) w = tt
  waits-settled go cleared s (list kind before parts) w =
      (waits-settled_parts go cleared s kind before [] 0 parts w.0, λ q i j h b l c a. w.1 q i j h b l c (part-touches go cleared s kind before [] 0 parts j (takes l c) a))
  waits-settled go cleared s (owning own part) w = waits-settled go (true ∷ cleared) (own ∷ s) part w
  waits-settled go cleared s (nested body exits own state values part) w = (waits-settled go (true ∷ cleared) (own ∷ s) part w.0, w.1)
  waits-settled go cleared s (ended own) w = tt
  waits-settled go cleared s (pool level container body active closed) w = (waits-settled_active go cleared s active w.0, w.1)

  waits-settled_parts : {P : Type 0} (go : Bool) (cleared : List Bool) (s : Memories) (kind : Parts) (before : ℕ → ℕ → Bool) (flags : List Bool) (number : ℕ) (ts : Terms P) →
      AllWait ts → AllWait (settle_parts go cleared s kind before flags number ts)
  waits-settled_parts go cleared s kind before flags number none w = tt
  waits-settled_parts go cleared s kind before flags number (also t ts) w =
      (waits-settled (go && is_ready before flags number) (map (λ flag. is_first_left kind flags && flag) cleared) s t w.0, waits-settled_parts go cleared s kind before _ (suc number) ts w.1)

  waits-settled_active : {P : Type 0} (go : Bool) (cleared : List Bool) (s : Memories) (ts : Actives P) → ActiveWait ts → ActiveWait (settle_active go cleared s ts)
  waits-settled_active go cleared s idle w = tt
  waits-settled_active go cleared s (busy v t ts) w = (waits-settled go cleared s t w.0, waits-settled_active go cleared s ts w.1)

-- a settled term that took nothing takes nothing
pub takes-nothing-settled : {P : Type 0} (go : Bool) (cleared : List Bool) (s : Memories) (t : Term P) → TakesNothingOutside t → TakesNothingOutside (settle go cleared s t)
takes-nothing-settled go cleared s t h = λ l c a. h l c (settle-touches go cleared s t (takes l c) a)
