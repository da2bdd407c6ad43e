use Rattle.sd_read.proofs.told_lemmas.Told.{number_is, line_is}
use Rattle.sd_read.proofs.told.laws.an_error_has_a_number_and_a_line.Goals as goal

pub returns : goal.returns
returns c = record { number = number_is; line = line_is }
