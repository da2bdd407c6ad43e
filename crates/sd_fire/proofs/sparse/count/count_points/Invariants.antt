use Rattle.std.proofs.Common.{◌≡◌, ◌*◌, length, drop}
use Rattle.sd_range.specs.Points.{tuples}
use Rattle.sd_fire.proofs.sparse_lemmas.Counts.{lists}
use Rattle.sd_fire.proofs.sparse.count.count_points.Given as goal

abbrev pub invariant-loop-number : goal.invariant-loop-number
invariant-loop-number l = l.count * length (tuples (lists l.env.values (drop l.number l.params))) ≡ length (tuples (lists l.env.values l.params))
