use Rattle.std.proofs.Common.{◌≡◌, map, take}
use Rattle.sd_left.specs.left.Telling.{unfinished_told}
use Rattle.sd_left.specs.left.Tells.{body_tells}
use Rattle.sd_left.proofs.left.count.unfinished_bodies.Given as goal

abbrev pub invariant-loop-body : goal.invariant-loop-body
invariant-loop-body l = l.unfinished.items ≡ unfinished_told (map body_tells (take l.body-index l.bodies))
