use Rattle.sd_safe.proofs.pieces_lemmas.UntilDone.{stays-until-done, prepared-until-done}
use Rattle.sd_safe.proofs.pieces.laws.what_a_piece_keeps_stays_until_it_is_done.Goals as goal

pub returns-clause-stays : goal.returns-clause-stays
returns-clause-stays c = stays-until-done

pub returns-clause-prepared : goal.returns-clause-prepared
returns-clause-prepared c = prepared-until-done
