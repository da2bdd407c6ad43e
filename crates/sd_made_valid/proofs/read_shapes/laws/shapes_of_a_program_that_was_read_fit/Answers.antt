use Rattle.sd_made_valid.proofs.read_shapes_lemmas.FitTexts.{shapes_fit}
use Rattle.sd_made_valid.proofs.read_shapes.laws.shapes_of_a_program_that_was_read_fit.Goals as goal

pub returns : goal.returns
returns c = shapes_fit
