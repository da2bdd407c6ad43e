use Rattle.sd_names.proofs.AffineLemmas.{difference_fits}
use Rattle.sd_uses.proofs.stretch.difference.Goals as goal

pub minus-requires : goal.minus-requires
minus-requires c = difference_fits c.args.end.now c.args.begin.now c.requires.end c.requires.begin
