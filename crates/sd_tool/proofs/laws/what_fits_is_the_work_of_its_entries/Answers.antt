use Rattle.sd_tool.proofs.Prepared.{prepared_is}
use Rattle.sd_tool.proofs.laws.what_fits_is_the_work_of_its_entries.Goals as goal

pub returns : goal.returns
returns c = prepared_is
