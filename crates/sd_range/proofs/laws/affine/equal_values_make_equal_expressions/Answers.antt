use Rattle.sd_range.proofs.AffineLaws.{same_known_values}
use Rattle.sd_range.proofs.laws.affine.equal_values_make_equal_expressions.Goals as goal

pub returns : goal.returns
returns c = same_known_values
