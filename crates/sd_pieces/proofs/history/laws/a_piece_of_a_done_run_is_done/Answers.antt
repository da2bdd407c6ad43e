use Rattle.sd_pieces.proofs.history_lemmas.DoneRuns.{turns-enough, piece-done, piece-no-fault, piece-not-spent}
use Rattle.sd_pieces.proofs.history.laws.a_piece_of_a_done_run_is_done.Goals as goal

pub returns-clause-turns : goal.returns-clause-turns
returns-clause-turns g c = turns-enough

pub returns-clause-done : goal.returns-clause-done
returns-clause-done g c = piece-done

pub returns-clause-fault : goal.returns-clause-fault
returns-clause-fault g c = piece-no-fault

pub returns-clause-spent : goal.returns-clause-spent
returns-clause-spent g c = piece-not-spent
