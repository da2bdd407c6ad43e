use Rattle.std.proofs.Common.{◌≡◌, take}
use Rattle.std.specs.List.{filter}
use Rattle.sd_wire.specs.wiring.Mentioned.{has_access}
use Rattle.sd_wire.proofs.wiring.mentioned.containers_by.Given as goal

-- those found so far
abbrev pub invariant-loop-container : goal.invariant-loop-container
invariant-loop-container l = l.found.items ≡ filter (has_access l.access l.uses) (take l.container-index l.container-items)
