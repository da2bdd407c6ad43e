use Rattle.sd_pieces.proofs.history_lemmas.CutSafe.{cut-interleaves, cut-pools}
use Rattle.sd_pieces.proofs.history.laws.items_that_may_interleave_may_do_so_in_pieces.Goals as goal

pub returns-clause-safe : goal.returns-clause-safe
returns-clause-safe g c = cut-interleaves

pub returns-clause-pools : goal.returns-clause-pools
returns-clause-pools g c = λ work items own. cut-pools work items own 0
