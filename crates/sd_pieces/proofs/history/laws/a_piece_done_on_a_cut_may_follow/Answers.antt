use Rattle.sd_pieces.proofs.history_lemmas.Follows.{cut-follows}
use Rattle.sd_pieces.proofs.history.laws.a_piece_done_on_a_cut_may_follow.Goals as goal

pub returns : goal.returns
returns g c = cut-follows
