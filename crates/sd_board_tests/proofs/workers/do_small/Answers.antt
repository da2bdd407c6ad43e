use Rattle.std.proofs.Common.{sym, subst}
use Rattle.sd_board.specs.Assignment.{HaveEnds}
use Rattle.sd_board_tests.proofs.SmallBoard.{small-ends}
use Rattle.sd_board_tests.proofs.workers.do_small.Goals as goal

pub run_board-requires-clause-ends : goal.run_board-requires-clause-ends
run_board-requires-clause-ends g c lifetimes outlive = subst HaveEnds (sym c.requires.assignment) small-ends
