use Rattle.sd_board.proofs.States.{state-whole}
use Rattle.sd_board.proofs.laws.a_whole_board_ends_as_the_sequential_run.Goals as goal

pub returns : goal.returns
returns c = state-whole
