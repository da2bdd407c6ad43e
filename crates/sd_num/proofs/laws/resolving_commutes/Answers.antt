use Rattle.sd_num.proofs.ResolutionLemmas.{resolved_comm}
use Rattle.sd_num.proofs.laws.resolving_commutes.Goals as goal

pub returns : goal.returns
returns c = resolved_comm c.args.resolution c.args.a c.args.b
