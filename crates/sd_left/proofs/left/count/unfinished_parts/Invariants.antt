use Rattle.std.proofs.Common.{◌≡◌, map, take}
use Rattle.sd_left.specs.left.Telling.{unfinished_told}
use Rattle.sd_left.specs.left.Tells.{tells}
use Rattle.sd_left.proofs.left.count.unfinished_parts.Given as goal

abbrev pub invariant-loop-part : goal.invariant-loop-part
invariant-loop-part l = l.unfinished.items ≡ unfinished_told (map tells (take l.part-index l.parts))
