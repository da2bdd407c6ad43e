use Rattle.sd_cut.proofs.WindowOrder.{cut-has}
use Rattle.sd_cut.proofs.laws.a_window_has_its_elements.Goals as goal

pub returns : goal.returns
returns c = cut-has
