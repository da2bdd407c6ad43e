use Rattle.sd_num.proofs.StoredLemmas.{IsElement-stored}
use Rattle.sd_num.proofs.storing.what_is_stored_is_an_element.Goals as goal

pub returns : goal.returns
returns c = IsElement-stored c.args.width c.args.by
