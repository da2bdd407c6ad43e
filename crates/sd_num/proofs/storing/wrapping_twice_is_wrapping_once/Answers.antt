use Rattle.sd_num.proofs.StoredLemmas.{wrapped_to-twice}
use Rattle.sd_num.proofs.storing.wrapping_twice_is_wrapping_once.Goals as goal

pub returns : goal.returns
returns c = wrapped_to-twice c.args.width
