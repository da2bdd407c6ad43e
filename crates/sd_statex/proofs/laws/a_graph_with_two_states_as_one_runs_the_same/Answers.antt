use Rattle.sd_statex.proofs.FusionLaws.{fused_runs}
use Rattle.sd_statex.proofs.laws.a_graph_with_two_states_as_one_runs_the_same.Goals as goal

pub returns : goal.returns
returns c = fused_runs
