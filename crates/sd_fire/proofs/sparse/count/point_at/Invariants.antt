use Rattle.std.proofs.Common.{◌≡◌, ◌++◌, [], drop, get_or}
use Rattle.sd_range.specs.Points.{tuples}
use Rattle.sd_fire.proofs.sparse_lemmas.Counts.{lists}
use Rattle.sd_fire.proofs.sparse.count.point_at.Given as goal

abbrev pub invariant-loop-number : goal.invariant-loop-number
invariant-loop-number l = l.at.items ++ get_or (tuples (lists l.env.values (drop l.number l.params))) l.rest [] ≡ get_or (tuples (lists l.env.values l.params)) l.place []
