use Rattle.sd_program.proofs.Sizes.{representable_within}
use Rattle.sd_program.proofs.laws.small_expressions_are_representable.Goals as goal

pub returns : goal.returns
returns c = representable_within
