use Rattle.sd_num.proofs.ResolutionLemmas.{resolved_assoc}
use Rattle.sd_num.proofs.laws.resolving_associates.Goals as goal

pub returns : goal.returns
returns c = resolved_assoc c.args.resolution c.args.a c.args.b c.args.c c.ranges.a c.ranges.b c.ranges.c
