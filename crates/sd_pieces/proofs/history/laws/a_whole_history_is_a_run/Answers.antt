use Rattle.sd_pieces.proofs.history_lemmas.Whole.{whole-run}
use Rattle.sd_pieces.proofs.history.laws.a_whole_history_is_a_run.Goals as goal

pub returns : goal.returns
returns g c = whole-run
