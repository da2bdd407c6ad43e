-- Work that settling leaves as it is, and parts that later ones do not hold up.
use Rattle.std.proofs.Common.{◌≡◌, ℕ, suc, ◌+◌, ◌≤◌, List, [], ◌∷◌, ◌++◌, map, length, Bool, true, false, ◌&&◌, ◌||◌, not, refl, ap, ap₂, ◌∙◌, arith}
use Rattle.sd_work.specs.Memory.{Memories}
use Rattle.sd_work.specs.Residual.{Parts, Term, leaf, list, owning, nested, ended, pool, Terms, none, also, Actives, idle, busy, finished, ready_from, is_ready}
use Rattle.sd_work.specs.Settle.{settle, settle_parts, settle_active, is_first_left}

still-closed : (closed : Bool) → (closed || false) ≡ closed
still-closed true = refl
still-closed false = refl

mutual
  pub settle-stays : {P : Type 0} (cleared : List Bool) (memories : Memories) (term : Term P) → settle false cleared memories term ≡ term
  settle-stays cleared memories (leaf place work) = refl
  settle-stays cleared memories (list kind before parts) = ap (list kind before) (parts-stay cleared memories kind before [] 0 parts)
  settle-stays cleared memories (owning own part) = ap (owning own) (settle-stays (true ∷ cleared) (own ∷ memories) part)
  settle-stays cleared memories (nested body exits own state values part) = ap (nested body exits own state values) (settle-stays (true ∷ cleared) (own ∷ memories) part)
  settle-stays cleared memories (ended own) = refl
  settle-stays cleared memories (pool level container body active closed) =
      ap₂ (pool level container body) (active-stay cleared memories active) (still-closed closed)

  pub parts-stay : {P : Type 0} (cleared : List Bool) (memories : Memories) (kind : Parts) (before : ℕ → ℕ → Bool) (flags : List Bool) (number : ℕ) (parts : Terms P)
      → settle_parts false cleared memories kind before flags number parts ≡ parts
  parts-stay cleared memories kind before flags number none = refl
  parts-stay cleared memories kind before flags number (also part parts) =
      let inner : List Bool = map (λ flag. is_first_left kind flags && flag) cleared in
      ap₂ also (settle-stays inner memories part)
      (parts-stay cleared memories kind before (flags ++ finished (settle false inner memories part) ∷ []) (suc number) parts)

  active-stay : {P : Type 0} (cleared : List Bool) (memories : Memories) (active : Actives P) → settle_active false cleared memories active ≡ active
  active-stay cleared memories idle = refl
  active-stay cleared memories (busy value part active) = ap₂ (busy value) (settle-stays cleared memories part) (active-stay cleared memories active)

-- ---- later parts

or-true : (flag : Bool) → (flag || true) ≡ true
or-true true = refl
or-true false = refl

none-before : (before : ℕ → ℕ → Bool) (flags : List Bool) (j k : ℕ) → ((other : ℕ) → j ≤ other → before other k ≡ false) → ready_from before j flags k ≡ true
none-before before [] j k free = refl
none-before before (flag ∷ flags) j k free =
    ap (λ (b : Bool). (flag || not b) && ready_from before (suc j) flags k) (free j (omega arith))
    ∙ ap (λ (b : Bool). b && ready_from before (suc j) flags k) (or-true flag)
    ∙ none-before before flags (suc j) k (λ other above. free other (omega (arith, above)))

split-ready : (before : ℕ → ℕ → Bool) (earlier later : List Bool) (j k : ℕ) → ((other : ℕ) → j + length earlier ≤ other → before other k ≡ false)
    → ready_from before j (earlier ++ later) k ≡ ready_from before j earlier k
split-ready before [] later j k free = none-before before later j k (λ other above. free other (omega (arith, above)))
split-ready before (flag ∷ earlier) later j k free =
    ap (λ (b : Bool). (flag || not (before j k)) && b) (split-ready before earlier later (suc j) k (λ other above. free other (omega (arith, above))))

pub later-ready : (before : ℕ → ℕ → Bool) (earlier later : List Bool) (number : ℕ) → ((other : ℕ) → length earlier ≤ other → before other number ≡ false)
    → is_ready before (earlier ++ later) number ≡ is_ready before earlier number
later-ready before earlier later number free = split-ready before earlier later 0 number (λ other above. free other (omega (arith, above)))
