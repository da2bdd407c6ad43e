use Rattle.sd_cut.proofs.Numbering.{cut-found}
use Rattle.sd_cut.proofs.laws.what_is_cut_is_found.Goals as goal

pub returns : goal.returns
returns c = cut-found
