use Rattle.std.proofs.Common.{◌≡◌, drop}
use Rattle.sd_order.specs.items.Joined.{mode_at, meets_one}
use Rattle.sd_order.proofs.items.reached.do_meet.Given as goal

-- one does where one of those that are left does
abbrev pub invariant-loop-use_ : goal.invariant-loop-use_
invariant-loop-use_ l = meets_one (mode_at l.modes) (drop l.use_-index l.uses) ≡ meets_one (mode_at l.modes) l.uses
