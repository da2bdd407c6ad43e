-- A move in a part is one of the part.
use Rattle.std.proofs.Common.{◌≡◌, ℕ, zero, suc, refl, ◌∙◌, ap}
use Rattle.sd_work.specs.Memory.{Memories}
use Rattle.sd_work.specs.Move.{Move, fails, goes, no_move, map_move}
use Rattle.sd_work.specs.Residual.{Term, Terms, none, also, part_at, Actives, idle, busy}
use Rattle.sd_work.specs.Moves.{Path}
use Rattle.sd_work.specs.Fire.{fire, fire_part, fire_active}
use Rattle.sd_moves.specs.numbered.PartsChanged.{with_part, active_at, with_active}

map_map : {P A B C : Type 0} (f : A → B) (g : B → C) (m : Move P A) → map_move g (map_move f m) ≡ map_move (λ x. g (f x)) m
map_map f g (fails turn fault) = refl
map_map f g (goes turn change left) = refl
map_map f g no_move = refl

pub fire-part : {P : Type 0} (parts : Terms P) (number : ℕ) (path : Path) (memories : Memories)
    → fire_part parts number path memories ≡ map_move (with_part parts number) (fire (part_at parts number) path memories)
fire-part none number path memories = refl
fire-part (also part parts) zero path memories = refl
fire-part (also part parts) (suc number) path memories =
    ap (map_move (also part)) (fire-part parts number path memories) ∙ map_map (with_part parts number) (also part) (fire (part_at parts number) path memories)

pub fire-active : {P : Type 0} (active : Actives P) (number : ℕ) (path : Path) (memories : Memories)
    → fire_active active number path memories ≡ map_move (with_active active number) (fire (active_at active number) path memories)
fire-active idle number path memories = refl
fire-active (busy value part active) zero path memories = refl
fire-active (busy value part active) (suc number) path memories =
    ap (map_move (busy value part)) (fire-active active number path memories) ∙ map_map (with_active active number) (busy value part) (fire (active_at active number) path memories)

pub other-part : {P : Type 0} (parts : Terms P) (number other : ℕ) (changed : Term P) → (other ≡ number → ⊥) → part_at (with_part parts number changed) other ≡ part_at parts other
other-part none number other changed h = refl
other-part (also part parts) zero zero changed h = absurd (h refl)
other-part (also part parts) zero (suc other) changed h = refl
other-part (also part parts) (suc number) zero changed h = refl
other-part (also part parts) (suc number) (suc other) changed h = other-part parts number other changed (λ e. h (ap suc e))
