use Rattle.std.proofs.Common.{◌≡◌, take, map}
use Rattle.sd_wire.specs.wiring.Mentioned.{by_container}
use Rattle.sd_wire.proofs.wiring.passing.by_containers.Given as goal

-- those so far
abbrev pub invariant-loop-container : goal.invariant-loop-container
invariant-loop-container l = l.all.items ≡ map by_container (take l.container-index l.containers)
