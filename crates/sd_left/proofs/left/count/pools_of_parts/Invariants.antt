use Rattle.std.proofs.Common.{◌≡◌, map, take}
use Rattle.sd_left.specs.left.Telling.{pools_told}
use Rattle.sd_left.specs.left.Tells.{tells}
use Rattle.sd_left.proofs.left.count.pools_of_parts.Given as goal

abbrev pub invariant-loop-part : goal.invariant-loop-part
invariant-loop-part l = l.pools.items ≡ pools_told (map tells (take l.part-index l.parts))
