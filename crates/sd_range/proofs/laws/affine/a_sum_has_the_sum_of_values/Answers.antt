use Rattle.sd_range.proofs.AffineLaws.{affine_value-sum}
use Rattle.sd_range.proofs.laws.affine.a_sum_has_the_sum_of_values.Goals as goal

pub returns : goal.returns
returns c = affine_value-sum
