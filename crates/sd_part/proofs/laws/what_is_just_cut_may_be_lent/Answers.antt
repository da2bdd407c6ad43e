use Rattle.sd_part.proofs.JustCut.{just-holds, just-made}
use Rattle.sd_part.proofs.laws.what_is_just_cut_may_be_lent.Goals as goal

pub returns-clause-holds : goal.returns-clause-holds
returns-clause-holds c = just-holds

pub returns-clause-fits : goal.returns-clause-fits
returns-clause-fits c = just-made
