use Rattle.sd_safe.proofs.pieces_lemmas.UntilDone.{leaves-alone, piece-stays}
use Rattle.sd_safe.proofs.pieces.laws.pieces_leave_alone_what_another_one_keeps.Goals as goal

pub returns-clause-alone : goal.returns-clause-alone
returns-clause-alone c = leaves-alone

pub returns-clause-stays : goal.returns-clause-stays
returns-clause-stays c = piece-stays
