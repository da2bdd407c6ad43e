use Rattle.sd_race.proofs.checking_lemmas.Clearing.{clear-next, clear-whole}
use Rattle.sd_race.proofs.checking.clear.are_accepted.Goals as goal

pub loop-one-preserved : goal.loop-one-preserved
loop-one-preserved c =
    clear-next c.args.scope.now c.args.some.now c.args.others.now c.loop-one.one-index c.one-item.result c.loop-one-test.true c.one-item.is c.loop-one.invariant
    (c.in_ok-is_clear_of.ensures c.if-not-branch.false)

pub returns : goal.returns
returns c = λ yes. clear-whole c.args.scope.now c.args.some.now c.args.others.now c.loop-one.one-index c.loop-one-test.false c.loop-one.invariant
