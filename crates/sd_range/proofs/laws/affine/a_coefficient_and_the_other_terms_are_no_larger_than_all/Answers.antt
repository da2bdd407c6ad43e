use Rattle.sd_range.proofs.Weights.{weight-parts}
use Rattle.sd_range.proofs.laws.affine.a_coefficient_and_the_other_terms_are_no_larger_than_all.Goals as goal

pub returns : goal.returns
returns c = weight-parts
