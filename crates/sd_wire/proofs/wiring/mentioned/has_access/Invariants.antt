use Rattle.std.proofs.Common.{◌≡◌, drop}
use Rattle.sd_wire.specs.wiring.Mentioned.{has_access}
use Rattle.sd_wire.proofs.wiring.mentioned.has_access.Given as goal

-- there is one where there is one among those that are left
abbrev pub invariant-loop-use_ : goal.invariant-loop-use_
invariant-loop-use_ l = has_access l.access (drop l.use_-index l.uses) l.container ≡ has_access l.access l.uses l.container
