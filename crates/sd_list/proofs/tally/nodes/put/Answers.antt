use Rattle.std.proofs.Common.{◌+◌, ◌^◌, ◌∙◌, arith}
use Rattle.std.proofs.lemmas.List.{length-set, drop-set-lt, drop-set-add}
use Rattle.sd_list.specs.tally.Nodes.{node}
use Rattle.sd_list.proofs.tally_lemmas.Putting.{summed-on, below-on, above-on, sum-fits}
use Rattle.sd_list.proofs.tally.nodes.put.Goals as goal

pub overflow_add-nodes-in-loop-at-4 : goal.overflow_add-nodes-in-loop-at-4
overflow_add-nodes-in-loop-at-4 c =
    let less = sum-fits c.args.nodes.now c.args.width c.loop-at.at (node c.args.nodes.now (c.args.width + c.args.number)) c.args.count (node c.loop-at.nodes (c.loop-at.at + c.loop-at.at) + node c.loop-at.nodes (c.loop-at.at + c.loop-at.at + 1)) (2 ^ 64)
    c.requires.summed c.loop-at-test.true c.loop-at.invariant.within (c.loop-at.invariant.below c.loop-at-test.true) c.requires.fits in
    omega (arith, less)

pub loop-at-preserved : goal.loop-at-preserved
loop-at-preserved c =
    let before = c.loop-at.invariant in
    let old = node c.args.nodes.now (c.args.width + c.args.number) in
    let positive = c.loop-at-test.true in
    record {
      sized = length-set c.loop-at.nodes c.loop-at.at _ ∙ before.sized;
      within = omega (arith, before.within);
      summed = summed-on c.loop-at.nodes c.args.width c.loop-at.at positive before.within before.sized before.summed;
      below = below-on c.loop-at.nodes c.args.width c.loop-at.at positive before.within before.sized c.args.nodes.now old c.args.count c.requires.summed before.above (before.below positive);
      above = above-on c.loop-at.nodes c.args.width c.loop-at.at positive before.within before.sized c.args.nodes.now old c.args.count c.requires.summed before.above (before.below positive);
      leaves = drop-set-lt c.args.width c.loop-at.nodes c.loop-at.at _ before.within ∙ before.leaves;
    }

pub returns-clause-leaves : goal.returns-clause-leaves
returns-clause-leaves c = c.loop-at.invariant.leaves ∙ drop-set-add c.args.width c.args.nodes.now c.args.number c.args.count
