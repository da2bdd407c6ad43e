use Rattle.sd_read.proofs.decided_lemmas.Decided.{decided}
use Rattle.sd_read.proofs.decided.deciding.the_first_refused_line_decides.Goals as goal

pub returns : goal.returns
returns c = decided
