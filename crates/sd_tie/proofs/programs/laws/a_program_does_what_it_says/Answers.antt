use Rattle.sd_tie.proofs.programs_lemmas.Calls.{source_follows}
use Rattle.sd_tie.proofs.programs.laws.a_program_does_what_it_says.Goals as goal

pub returns : goal.returns
returns c = source_follows
