use Rattle.sd_pieces.proofs.history_lemmas.OneEnd.{one-end, allowed-more}
use Rattle.sd_pieces.proofs.history.laws.a_history_has_one_end.Goals as goal

pub returns-clause-one : goal.returns-clause-one
returns-clause-one g c = one-end

pub returns-clause-allowed : goal.returns-clause-allowed
returns-clause-allowed g c = allowed-more
