use Rattle.sd_tie.proofs.tasklets_lemmas.WholeTied.{taking_tied}
use Rattle.sd_tie.proofs.tasklets.laws.a_tasklet_on_an_element_does_what_it_says.Goals as goal

pub returns : goal.returns
returns c = taking_tied
