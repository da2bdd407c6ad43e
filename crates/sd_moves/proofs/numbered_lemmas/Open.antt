-- Work without open pools is settled as it is.
use Rattle.std.proofs.Common.{◌≡◌, ℕ, suc, List, [], ◌∷◌, map, Bool, true, false, ◌&&◌, ◌||◌, slice_index_or, refl, ap, ap₂}
use Rattle.sd_work.specs.Memory.{Memories, waiting}
use Rattle.sd_work.specs.Residual.{Parts, Term, leaf, list, owning, nested, ended, pool, Terms, none, also, Actives, idle, busy, none_active, is_ready}
use Rattle.sd_work.specs.Settle.{is_empty, is_first_left, settle, settle_parts, settle_active}
use Rattle.sd_moves.specs.numbered.OpenPools.{HasNoOpenPool, HaveNoOpenPool, HaveNoActiveOpenPool}

closed_stays : (closed other : Bool) → closed ≡ true → (closed || other) ≡ closed
closed_stays true other h = refl
closed_stays false other h = cc

mutual
  pub settled-open : {P : Type 0} (term : Term P) (may_go : Bool) (cleared : List Bool) (memories : Memories) → HasNoOpenPool term → settle may_go cleared memories term ≡ term
  settled-open (leaf place work) may_go cleared memories h = refl
  settled-open (list kind before parts) may_go cleared memories h = ap (list kind before) (parts-open parts may_go cleared memories kind before [] 0 h)
  settled-open (owning own part) may_go cleared memories h = ap (owning own) (settled-open part may_go (true ∷ cleared) (own ∷ memories) h)
  settled-open (nested body exits own state values part) may_go cleared memories h =
      ap (nested body exits own state values) (settled-open part may_go (true ∷ cleared) (own ∷ memories) h)
  settled-open (ended own) may_go cleared memories h = refl
  settled-open (pool level container body active closed) may_go cleared memories h =
      ap₂ (pool level container body) (active-open active may_go cleared memories h.1)
      (closed_stays closed (may_go && (none_active (settle_active may_go cleared memories active) && (is_empty (waiting level container memories) && slice_index_or cleared level false))) h.0)

  parts-open : {P : Type 0} (parts : Terms P) (may_go : Bool) (cleared : List Bool) (memories : Memories) (kind : Parts) (before : ℕ → ℕ → Bool) (flags : List Bool) (number : ℕ) → HaveNoOpenPool parts
      → settle_parts may_go cleared memories kind before flags number parts ≡ parts
  parts-open none may_go cleared memories kind before flags number h = refl
  parts-open (also part parts) may_go cleared memories kind before flags number h =
      ap₂ also (settled-open part (may_go && is_ready before flags number) (map (λ flag. is_first_left kind flags && flag) cleared) memories h.0)
      (parts-open parts may_go cleared memories kind before _ (suc number) h.1)

  active-open : {P : Type 0} (active : Actives P) (may_go : Bool) (cleared : List Bool) (memories : Memories) → HaveNoActiveOpenPool active → settle_active may_go cleared memories active ≡ active
  active-open idle may_go cleared memories h = refl
  active-open (busy value part active) may_go cleared memories h = ap₂ (busy value) (settled-open part may_go cleared memories h.0) (active-open active may_go cleared memories h.1)
