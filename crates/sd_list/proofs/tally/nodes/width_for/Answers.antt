use Rattle.std.proofs.Common.{◌≡◌, ◌+◌, rules, arith}
use Rattle.sd_list.proofs.tally_lemmas.Sums.{doubled-positive, doubled-above}
use Rattle.sd_list.proofs.tally.nodes.width_for.Goals as goal

pub overflow_add-depth : goal.overflow_add-depth
overflow_add-depth c = omega (arith, doubled-above c.loop-width.depth, c.loop-width.invariant, c.loop-width-test.true, c.ranges.counts.fits)

pub loop-width-smaller : goal.loop-width-smaller
loop-width-smaller c =
    let grown : c.in_ok-width.width ≡ c.loop-width.width + c.loop-width.width = search rules in
    omega (arith, doubled-positive c.loop-width.depth, c.loop-width.invariant, c.loop-width-test.true, grown)

pub returns-clause-wide : goal.returns-clause-wide
returns-clause-wide c = omega (arith, doubled-positive c.loop-width.depth, c.loop-width.invariant)
