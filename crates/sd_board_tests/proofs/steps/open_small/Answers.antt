use Rattle.std.proofs.Common.{sym, subst}
use Rattle.sd_board.specs.Assignment.{HaveEnds}
use Rattle.sd_board_tests.proofs.SmallBoard.{small-ends}
use Rattle.sd_board_tests.proofs.steps.open_small.Goals as goal

pub open-requires-clause-ends : goal.open-requires-clause-ends
open-requires-clause-ends g c = subst HaveEnds (sym c.requires.assignment) small-ends
