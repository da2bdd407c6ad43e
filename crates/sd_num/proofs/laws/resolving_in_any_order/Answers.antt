use Rattle.sd_num.proofs.ResolutionLemmas.{resolved_all-permutation}
use Rattle.sd_num.proofs.laws.resolving_in_any_order.Goals as goal

pub returns : goal.returns
returns c = λ commutes values reordered fit. resolved_all-permutation c.args.resolution c.args.old values reordered commutes c.ranges.old fit
