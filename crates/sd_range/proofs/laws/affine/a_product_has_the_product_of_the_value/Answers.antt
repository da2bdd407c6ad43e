use Rattle.sd_range.proofs.AffineLaws.{affine_value-product}
use Rattle.sd_range.proofs.laws.affine.a_product_has_the_product_of_the_value.Goals as goal

pub returns : goal.returns
returns c = affine_value-product
