use Rattle.sd_range.proofs.AffineLaws.{affine_value-substituted}
use Rattle.sd_range.proofs.laws.affine.a_substituted_variable_has_the_value_of_its_expression.Goals as goal

pub returns : goal.returns
returns c = affine_value-substituted
