use Rattle.sd_piece.proofs.Agreeing.{piece-agrees}
use Rattle.sd_piece.proofs.laws.what_a_piece_left_agrees_with_its_memory.Goals as goal

pub returns : goal.returns
returns c = piece-agrees
