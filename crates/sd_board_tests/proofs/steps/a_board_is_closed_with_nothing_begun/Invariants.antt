use Rattle.sd_board_tests.specs.Small.{small}
use Rattle.sd_board_tests.proofs.steps.a_board_is_closed_with_nothing_begun.Given as goal

-- the ledger that the blank has made
abbrev pub ghosts-close_at_once-A-Ledger : goal.ghosts-close_at_once-A-Ledger
ghosts-close_at_once-A-Ledger g a = record { name = a.blank.name; parts = a.blank.parts }

-- the small board
abbrev pub ghosts-close_at_once-A-Assigned : goal.ghosts-close_at_once-A-Assigned
ghosts-close_at_once-A-Assigned g a = record { assignment = small }
