use Rattle.std.proofs.Common.{◌≡◌, replicate, None}
use Rattle.sd_left.proofs.sparse.stretch.fresh_points.Given as goal

abbrev pub invariant-loop : goal.invariant-loop
invariant-loop l = (l.points.items ≡ replicate l.counter None)
