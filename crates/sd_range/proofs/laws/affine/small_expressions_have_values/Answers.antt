use Rattle.sd_range.proofs.Weights.{evaluable}
use Rattle.sd_range.proofs.laws.affine.small_expressions_have_values.Goals as goal

pub returns : goal.returns
returns c = evaluable
