use Rattle.std.proofs.Common.{arith}
use Rattle.sd_list.proofs.tally_lemmas.Sums.{doubled-positive}
use Rattle.sd_list.proofs.tally_lemmas.Finding.{down, way-on, way-begins}
use Rattle.sd_list.proofs.tally.nodes.find_leaf.Goals as goal

pub loop-level-init : goal.loop-level-init
loop-level-init c = way-begins c.args.nodes.now c.args.unit c.requires.inside

pub step_down-below-requires-clause-there : goal.step_down-below-requires-clause-there
step_down-below-requires-clause-there c =
    omega (arith, c.requires.sized, down c.loop-level._level c.args.depth c.loop-level.at c.args.width c.loop-level-test.true c.requires.doubled c.loop-level.invariant.high)

pub step_down-below-requires-clause-sum : goal.step_down-below-requires-clause-sum
step_down-below-requires-clause-sum c =
    c.requires.summed c.loop-level.at (omega (arith, doubled-positive c.loop-level._level, c.loop-level.invariant.low))
    (down c.loop-level._level c.args.depth c.loop-level.at c.args.width c.loop-level-test.true c.requires.doubled c.loop-level.invariant.high)

pub loop-level-preserved : goal.loop-level-preserved
loop-level-preserved c =
    way-on c.args.nodes.now c.args.width c.args.depth c.args.unit c.loop-level._level c.loop-level.at c.loop-level.rest c.step_down-below.result.0 c.step_down-below.result.1
    c.requires.summed c.requires.sized c.requires.doubled c.loop-level-test.true c.loop-level.invariant c.step_down-below.ensures
