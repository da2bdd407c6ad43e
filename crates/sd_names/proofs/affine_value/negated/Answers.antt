use Rattle.sd_names.proofs.AffineLemmas.{negative_fits}
use Rattle.sd_names.proofs.affine_value.negated.Goals as goal

pub times-requires : goal.times-requires
times-requires c = negative_fits c.args.value.now c.requires
