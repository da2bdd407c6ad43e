use Rattle.sd_read.proofs.readable_lemmas.Fields.{well_formed, levels_of_program, parts_of_program, functions_of_program}
use Rattle.sd_read.proofs.readable.laws.a_program_that_was_read_is_well_formed.Goals as goal

pub returns : goal.returns
returns c = record { well_formed = well_formed; levels = levels_of_program; parts = parts_of_program; functions = functions_of_program }
