use Rattle.std.proofs.Common.{◌≡◌, ℕ, drop}
use Rattle.sd_order.specs.items.Joined.{mode_at, joined_behind}
use Rattle.sd_order.proofs.items.reached.add.Given as goal

-- the modes so far, with the uses that are left
abbrev pub invariant-loop-use_ : goal.invariant-loop-use_
invariant-loop-use_ l = (container : ℕ) → joined_behind container (mode_at l.modes.items container) (drop l.use_-index l.uses) ≡ joined_behind container (mode_at l.initial.modes.items container) l.uses
