use Rattle.sd_pieces.proofs.history_lemmas.Cutting.{history-sequential}
use Rattle.sd_pieces.proofs.history.laws.a_whole_history_ends_as_the_sequential_run.Goals as goal

pub returns : goal.returns
returns g c = history-sequential
