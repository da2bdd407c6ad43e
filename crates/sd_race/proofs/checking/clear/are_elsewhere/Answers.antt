use Rattle.sd_race.proofs.checking_lemmas.Clearing.{elsewhere-turned}
use Rattle.sd_race.proofs.checking.clear.are_elsewhere.Goals as goal

pub returns : goal.returns
returns c = λ yes. elsewhere-turned c.args.others.now c.args.some.now (c.are_before-2.ensures yes)
