use Rattle.std.proofs.Common.{◌≡◌, map, take}
use Rattle.sd_left.specs.left.Telling.{moves_told}
use Rattle.sd_left.specs.left.Tells.{body_tells}
use Rattle.sd_left.proofs.left.count.moves_of_each.Given as goal

abbrev pub invariant-loop-body : goal.invariant-loop-body
invariant-loop-body l = l.moves.items ≡ moves_told (map body_tells (take l.body-index l.bodies))
