use Rattle.sd_num.proofs.StoredLemmas.{identity-changes_nothing}
use Rattle.sd_num.proofs.storing.an_identity_changes_no_element.Goals as goal

pub returns : goal.returns
returns c = identity-changes_nothing c.args.width c.args.resolution
