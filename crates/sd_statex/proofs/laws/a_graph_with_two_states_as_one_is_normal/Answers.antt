use Rattle.sd_statex.proofs.NormalFused.{fused_is_normal}
use Rattle.sd_statex.proofs.laws.a_graph_with_two_states_as_one_is_normal.Goals as goal

pub returns : goal.returns
returns c = fused_is_normal
