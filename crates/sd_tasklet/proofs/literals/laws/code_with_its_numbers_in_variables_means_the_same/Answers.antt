use Rattle.sd_tasklet.proofs.literals_lemmas.LiftedMeaning.{meaning-lifted}
use Rattle.sd_tasklet.proofs.literals.laws.code_with_its_numbers_in_variables_means_the_same.Goals as goal

pub returns : goal.returns
returns c = λ numbers code inputs many. meaning-lifted numbers code inputs many
