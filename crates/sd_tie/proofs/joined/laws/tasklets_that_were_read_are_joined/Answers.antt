use Rattle.sd_tie.proofs.joined_lemmas.Read.{tasklets_joined}
use Rattle.sd_tie.proofs.joined.laws.tasklets_that_were_read_are_joined.Goals as goal

pub returns : goal.returns
returns c = tasklets_joined
