use Rattle.sd_left.proofs.tree_lemmas.Runs.{state-moves, run-goes-on}
use Rattle.sd_left.proofs.tree.laws.a_run_moves_in_its_state_or_goes_on.Goals as goal

pub returns : goal.returns
returns c = record { state = state-moves; transition = run-goes-on }
