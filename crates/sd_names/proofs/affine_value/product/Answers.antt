use Rattle.std.proofs.Common.{to_z-of_z}
use Rattle.sd_names.proofs.AffineLemmas.{product_fits, constant_fits}
use Rattle.sd_names.proofs.affine_value.product.Goals as goal

-- the constant fits, and so does the product with it
pub times-requires : goal.times-requires
times-requires c =
    let fits = constant_fits c.args.left.now c.requires.left in
    simp to_z-of_z (product_fits c.args.left.now c.args.right.now c.requires.left c.requires.right)

pub times-requires-else-is_left_a_number : goal.times-requires-else-is_left_a_number
times-requires-else-is_left_a_number c =
    let fits = constant_fits c.args.right.now c.requires.right in
    simp to_z-of_z (product_fits c.args.right.now c.args.left.now c.requires.right c.requires.left)
