use Rattle.sd_range.proofs.Weights.{representable}
use Rattle.sd_range.proofs.laws.affine.small_expressions_have_combinations_that_fit.Goals as goal

pub returns : goal.returns
returns c = representable
