use Rattle.sd_num.proofs.StoredLemmas.{stored-exchanges}
use Rattle.sd_num.proofs.storing.storing_commutes.Goals as goal

pub returns : goal.returns
returns c = stored-exchanges c.args.width c.args.resolution
