use Rattle.sd_num.proofs.StoredLemmas.{wrapped_to-element}
use Rattle.sd_num.proofs.storing.an_element_is_its_own_wrapped_value.Goals as goal

pub returns : goal.returns
returns c = wrapped_to-element c.args.width
