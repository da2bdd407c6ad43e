use Rattle.sd_tie.proofs.tasklets_lemmas.WholeTied.{tasklet_tied}
use Rattle.sd_tie.proofs.tasklets.laws.a_tasklet_does_what_it_says.Goals as goal

pub returns : goal.returns
returns c = tasklet_tied
