use Rattle.sd_board_tests.specs.Small.{small}
use Rattle.sd_board_tests.proofs.workers.three_threads_do_all_pieces_of_a_board.Given as goal

-- the ledger that the blank has made
abbrev pub ghosts-do_small-A-Ledger : goal.ghosts-do_small-A-Ledger
ghosts-do_small-A-Ledger g a = record { name = a.blank.name; parts = a.blank.parts }

-- the small board
abbrev pub ghosts-do_small-A-Assigned : goal.ghosts-do_small-A-Assigned
ghosts-do_small-A-Assigned g a = record { assignment = small }
