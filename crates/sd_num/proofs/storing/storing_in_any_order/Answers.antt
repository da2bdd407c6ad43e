use Rattle.sd_num.proofs.StoredLemmas.{stored_all-permutation}
use Rattle.sd_num.proofs.storing.storing_in_any_order.Goals as goal

pub returns : goal.returns
returns c = stored_all-permutation c.args.width c.args.resolution
