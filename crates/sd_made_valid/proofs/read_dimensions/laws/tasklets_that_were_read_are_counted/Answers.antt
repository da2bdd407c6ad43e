use Rattle.sd_made_valid.proofs.read_dimensions_lemmas.Read.{tasklets_counted}
use Rattle.sd_made_valid.proofs.read_dimensions.laws.tasklets_that_were_read_are_counted.Goals as goal

pub returns : goal.returns
returns c = tasklets_counted
