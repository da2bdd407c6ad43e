use Rattle.sd_validate.proofs.limits_lemmas.SmallValues.{difference_fits, sum_fits}
use Rattle.sd_validate.proofs.limits.affine.joined.Goals as goal

pub plus-requires : goal.plus-requires
plus-requires c = sum_fits c.args.left.now c.args.right.now c.requires.left c.requires.right

pub minus-requires : goal.minus-requires
minus-requires c = difference_fits c.args.left.now c.args.right.now c.requires.left c.requires.right
