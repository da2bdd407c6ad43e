use Rattle.std.proofs.Common.{◌≡◌, take, map}
use Rattle.sd_lower.specs.Kinds.{map_container}
use Rattle.sd_lower.proofs.kinds.map_containers.Given as goal

-- those so far
abbrev pub invariant-loop-container : goal.invariant-loop-container
invariant-loop-container l = l.kinds.items ≡ map (map_container l.path l.accesses) (take l.container-index l.container-items)
