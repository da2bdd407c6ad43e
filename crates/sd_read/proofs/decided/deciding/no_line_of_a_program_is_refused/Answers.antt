use Rattle.sd_read.proofs.decided_lemmas.Decided.{accepted}
use Rattle.sd_read.proofs.decided.deciding.no_line_of_a_program_is_refused.Goals as goal

pub returns : goal.returns
returns c = accepted
