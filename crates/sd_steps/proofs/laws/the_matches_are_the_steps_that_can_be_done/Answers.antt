use Rattle.sd_steps.proofs.Listed.{matches_are}
use Rattle.sd_steps.proofs.laws.the_matches_are_the_steps_that_can_be_done.Goals as goal

pub returns : goal.returns
returns c = matches_are
