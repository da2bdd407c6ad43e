use Rattle.sd_board_tests.specs.Small.{small}
use Rattle.sd_board_tests.proofs.workers.a_piece_that_is_given_back_is_taken_again.Given as goal

-- the ledger that the blank has made
abbrev pub ghosts-take_twice-A-Ledger : goal.ghosts-take_twice-A-Ledger
ghosts-take_twice-A-Ledger g a = record { name = a.blank.name; parts = a.blank.parts }

-- the small board
abbrev pub ghosts-take_twice-A-Assigned : goal.ghosts-take_twice-A-Assigned
ghosts-take_twice-A-Assigned g a = record { assignment = small }
