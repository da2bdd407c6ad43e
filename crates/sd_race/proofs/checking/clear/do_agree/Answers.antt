use Rattle.sd_wire.specs.wiring.Mentioned.{mode_of}
use Rattle.sd_race.proofs.checking_lemmas.Clearing.{agreed}
use Rattle.sd_race.proofs.checking.clear.do_agree.Goals as goal

pub returns : goal.returns
returns c = λ yes. agreed (mode_of c.mode-mode.result) c.args.some.now c.args.others.now (c.agrees_with.ensures c.if-not-agrees_with.false) (c.agrees_with-2.ensures yes)
