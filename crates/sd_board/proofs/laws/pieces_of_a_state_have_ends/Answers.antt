use Rattle.sd_board.proofs.States.{state-ends}
use Rattle.sd_board.proofs.laws.pieces_of_a_state_have_ends.Goals as goal

pub returns : goal.returns
returns c = state-ends
