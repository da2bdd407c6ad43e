use Rattle.std.proofs.Common.{rules}
use Rattle.std.proofs.lemmas.Int.{wraps}
use Rattle.sd_num.proofs.wrapping.sub.Goals as goal

pub returns : goal.returns
returns c = search (rules, wraps)
