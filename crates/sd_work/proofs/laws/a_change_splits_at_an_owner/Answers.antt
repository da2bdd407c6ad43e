use Rattle.sd_work.proofs.Changes.{apply-own}
use Rattle.sd_work.proofs.laws.a_change_splits_at_an_owner.Goals as goal

pub returns : goal.returns
returns c = apply-own
