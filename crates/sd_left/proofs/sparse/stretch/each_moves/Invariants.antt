use Rattle.std.proofs.Common.{◌≡◌, take}
use Rattle.sd_left.specs.sparse.Stretch.{moves_each}
use Rattle.sd_left.proofs.sparse.stretch.each_moves.Given as goal

abbrev pub invariant-loop-point : goal.invariant-loop-point
invariant-loop-point l = l.moves.items ≡ moves_each l.tasks (take l.point-index l.points)
