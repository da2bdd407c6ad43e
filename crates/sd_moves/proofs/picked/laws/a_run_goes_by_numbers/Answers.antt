use Rattle.sd_moves.proofs.picked_lemmas.Numbers.{run-numbered, trace-numbered}
use Rattle.sd_moves.proofs.picked.laws.a_run_goes_by_numbers.Goals as goal

pub returns : goal.returns
returns g c = record { run = run-numbered; trace = trace-numbered }
