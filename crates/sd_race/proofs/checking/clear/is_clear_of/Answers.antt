use Rattle.sd_race.specs.race.Pairs.{IsAccepted, pair_of}
use Rattle.sd_race.specs.declared.checking.placed.Placed.{Placed}
use Rattle.sd_race.proofs.checking_lemmas.Clearing.{all-next, all-whole}
use Rattle.sd_race.proofs.checking.clear.is_clear_of.Goals as goal

pub loop-other-preserved : goal.loop-other-preserved
loop-other-preserved c =
    all-next (λ (other : Placed). IsAccepted (pair_of c.args.scope.now c.args.access.now other.access.now)) c.args.others.now c.loop-other.other-index c.other-item.result c.loop-other-test.true c.other-item.is c.loop-other.invariant
    (c.in_ok-is_accepted.ensures.0 c.if-not-branch.false)

pub returns : goal.returns
returns c = λ yes. all-whole (λ (other : Placed). IsAccepted (pair_of c.args.scope.now c.args.access.now other.access.now)) c.args.others.now c.loop-other.other-index c.loop-other-test.false c.loop-other.invariant
