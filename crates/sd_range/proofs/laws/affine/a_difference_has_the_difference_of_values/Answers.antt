use Rattle.sd_range.proofs.AffineLaws.{affine_value-difference}
use Rattle.sd_range.proofs.laws.affine.a_difference_has_the_difference_of_values.Goals as goal

pub returns : goal.returns
returns c = affine_value-difference
