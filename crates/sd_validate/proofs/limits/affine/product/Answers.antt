use Rattle.std.proofs.Common.{FitsSigned}
use Rattle.std.specs.Int.{w128}
use Rattle.std.proofs.lemmas.Int.{to_z-of_z}
use Rattle.sd_validate.proofs.limits_lemmas.SmallValues.{constant_fits, product_fits}
use Rattle.sd_validate.proofs.limits.affine.product.Goals as goal

pub times-requires : goal.times-requires
times-requires c =
    let fits : FitsSigned w128 c.args.factor.now.constant = constant_fits c.args.factor.now c.requires.factor in
    simp to_z-of_z (product_fits c.args.factor.now c.args.a.now c.requires.factor c.requires.a)
