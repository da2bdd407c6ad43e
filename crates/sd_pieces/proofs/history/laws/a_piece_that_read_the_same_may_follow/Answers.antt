use Rattle.sd_pieces.proofs.history_lemmas.Follows.{piece-follows, fault-follows, spent-follows}
use Rattle.sd_pieces.proofs.history.laws.a_piece_that_read_the_same_may_follow.Goals as goal

pub returns-clause-done : goal.returns-clause-done
returns-clause-done g c = piece-follows

pub returns-clause-fault : goal.returns-clause-fault
returns-clause-fault g c = fault-follows

pub returns-clause-spent : goal.returns-clause-spent
returns-clause-spent g c = spent-follows
