use Rattle.sd_safe.proofs.pieces_lemmas.PiecePlaces.{parts-work}
use Rattle.sd_safe.proofs.pieces_lemmas.PieceFit.{pieces-fit}
use Rattle.sd_safe.proofs.pieces.laws.pieces_are_parts_of_their_items.Goals as goal

pub returns-clause-work : goal.returns-clause-work
returns-clause-work c = λ counts item items context. parts-work context counts item items

pub returns-clause-fit : goal.returns-clause-fit
returns-clause-fit c = pieces-fit
