use Rattle.sd_board.proofs.States.{state-not-stopped}
use Rattle.sd_board.proofs.laws.a_board_whose_run_is_done_is_not_stopped.Goals as goal

pub returns : goal.returns
returns c = state-not-stopped
