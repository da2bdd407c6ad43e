use Rattle.sd_race.proofs.checking_lemmas.Clearing.{elsewhere-clear, agreed-clear}
use Rattle.sd_race.proofs.checking.clear.is_seen.Goals as goal

pub returns-then-are_elsewhere : goal.returns-then-are_elsewhere
returns-then-are_elsewhere c = λ yes. elsewhere-clear c.args.scope.now c.args.some.now c.args.others.now (c.are_elsewhere.ensures c.if-are_elsewhere.true)

pub returns-then-do_agree : goal.returns-then-do_agree
returns-then-do_agree c = λ yes. agreed-clear c.args.scope.now c.args.some.now c.args.others.now (c.do_agree.ensures c.if-do_agree.true)
