use Rattle.std.proofs.Common.{◌≡◌, map, take}
use Rattle.sd_left.specs.left.Telling.{pools_told}
use Rattle.sd_left.specs.left.Tells.{body_tells}
use Rattle.sd_left.proofs.left.count.pools_of_each.Given as goal

abbrev pub invariant-loop-body : goal.invariant-loop-body
invariant-loop-body l = l.pools.items ≡ pools_told (map body_tells (take l.body-index l.bodies))
