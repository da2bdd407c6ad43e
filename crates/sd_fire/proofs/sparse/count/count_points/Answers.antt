use Rattle.std.proofs.Common.{◌*◌, ℕ, length, drop, ◌+◌, ap, ◌∙◌}
use Rattle.sd_range.specs.Points.{tuples}
use Rattle.sd_left.proofs.left_lemmas.Readiness.{member-there}
use Rattle.sd_fire.proofs.sparse_lemmas.Counts.{lists, count-on, one-slice}
use Rattle.sd_fire.proofs.sparse.count.count_points.Goals as goal

pub loop-number-preserved : goal.loop-number-preserved
loop-number-preserved c =
    let params = c.args.params.now in
    let values = c.args.env.now.values in
    let number = c.loop-number.number in
    let one = member-there params number c.loop-number-test.true in
    let here = c.in_ok-here.ensures one.0.0 one.0.1 (one-slice params number one.0 c.loop-number-test.true one.1) in
    ap (λ (n : ℕ). n * length (tuples (lists values (drop (number + 1) params)))) c.in-Some.ensures.1
    ∙ count-on values params number c.loop-number.count c.in_ok-here.here one.0.0 one.0.1 c.loop-number-test.true one.1 here c.loop-number.invariant
