use Rattle.sd_part.proofs.MarkedOverlay.{overlay-marked, cut-fresh}
use Rattle.sd_part.proofs.laws.a_marked_cut_is_marked_as_accesses_ask.Goals as goal

pub returns-clause-marked : goal.returns-clause-marked
returns-clause-marked c = overlay-marked

pub returns-clause-fresh : goal.returns-clause-fresh
returns-clause-fresh c = cut-fresh
