use Rattle.sd_lower.proofs.Covering.{item-has-hull}
use Rattle.sd_lower.proofs.laws.hulls_have_what_accesses_touch.Goals as goal

pub returns : goal.returns
returns c = item-has-hull
