-- One part of a list changed, or one active term of a pool.
use Rattle.std.specs.Prelude.{ℕ, zero, suc, []}
use Rattle.sd_work.specs.Residual.{Term, ended, Terms, none, also, Actives, idle, busy}

-- the parts with another one in the place of this number; without such a place they stay as they are
abbrev pub with_part : {P : Type 0} → Terms P → (number : ℕ) → Term P → Terms P
with_part none number changed = none
with_part (also part parts) zero changed = also changed parts
with_part (also part parts) (suc number) changed = also part (with_part parts number changed)

-- the active term of this number; where there is none, a run that has ended, which does nothing
abbrev pub active_at : {P : Type 0} → Actives P → (number : ℕ) → Term P
active_at idle number = ended []
active_at (busy value part active) zero = part
active_at (busy value part active) (suc number) = active_at active number

-- the active terms with another one in the place of this number, for the same value
abbrev pub with_active : {P : Type 0} → Actives P → (number : ℕ) → Term P → Actives P
with_active idle number changed = idle
with_active (busy value part active) zero changed = busy value changed active
with_active (busy value part active) (suc number) changed = busy value part (with_active active number changed)
