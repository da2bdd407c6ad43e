use Rattle.sd_statex.proofs.states_lemmas.WholeFused.{fused_runs_same}
use Rattle.sd_statex.proofs.states.laws.a_graph_with_states_fused_runs_the_same.Goals as goal

pub returns : goal.returns
returns c = fused_runs_same
