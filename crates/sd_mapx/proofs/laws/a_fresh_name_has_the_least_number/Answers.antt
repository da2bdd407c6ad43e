use Rattle.sd_mapx.proofs.FreshLaws.{fresh_is_least}
use Rattle.sd_mapx.proofs.laws.a_fresh_name_has_the_least_number.Goals as goal

pub returns : goal.returns
returns c = fresh_is_least
