use Rattle.sd_work.proofs.Changes.{width-apply}
use Rattle.sd_work.proofs.laws.a_change_keeps_widths.Goals as goal

pub returns : goal.returns
returns c = width-apply
