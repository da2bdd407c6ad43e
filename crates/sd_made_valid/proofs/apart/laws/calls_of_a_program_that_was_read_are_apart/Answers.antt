use Rattle.sd_made_valid.proofs.apart_lemmas.Texts.{calls_apart}
use Rattle.sd_made_valid.proofs.apart.laws.calls_of_a_program_that_was_read_are_apart.Goals as goal

pub returns : goal.returns
returns c = calls_apart
