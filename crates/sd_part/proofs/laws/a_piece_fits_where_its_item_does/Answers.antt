use Rattle.sd_part.proofs.PieceFit.{piece-fits, piece-leads}
use Rattle.sd_part.proofs.laws.a_piece_fits_where_its_item_does.Goals as goal

pub returns-clause-fits : goal.returns-clause-fits
returns-clause-fits c = piece-fits

pub returns-clause-leads : goal.returns-clause-leads
returns-clause-leads c = piece-leads
