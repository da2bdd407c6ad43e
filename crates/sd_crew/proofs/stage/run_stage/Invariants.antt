use Rattle.sd_crew.specs.Stage.{work_of}
use Rattle.sd_crew.proofs.stage.run_stage.Given as goal

-- the ledger that the blank has made
abbrev pub ghosts-on_board-A-Ledger : goal.ghosts-on_board-A-Ledger
ghosts-on_board-A-Ledger g a = record { name = a.blank.name; parts = a.blank.parts }

-- the work of the stage
abbrev pub ghosts-on_board-A-Assigned : goal.ghosts-on_board-A-Assigned
ghosts-on_board-A-Assigned g a = record { assignment = work_of a.stage.now a.memory }
