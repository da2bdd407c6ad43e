use Rattle.sd_pieces.proofs.history_lemmas.Follows.{parts-append}
use Rattle.sd_pieces.proofs.history_lemmas.Cutting.{cut-run}
use Rattle.sd_pieces.proofs.history.laws.items_in_pieces_come_to_the_same.Goals as goal

pub returns-clause-parts : goal.returns-clause-parts
returns-clause-parts g c = parts-append

pub returns-clause-items : goal.returns-clause-items
returns-clause-items g c = cut-run
