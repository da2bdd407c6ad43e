use Rattle.sd_moves.proofs.settling_lemmas.Staying.{later-ready}
use Rattle.sd_moves.proofs.settling.laws.later_parts_do_not_hold_up.Goals as goal

pub returns : goal.returns
returns c = later-ready
