use Rattle.sd_part.proofs.PieceAccesses.{outline-piece}
use Rattle.sd_part.proofs.laws.an_outline_has_the_accesses_of_each_piece.Goals as goal

pub returns : goal.returns
returns c = outline-piece
