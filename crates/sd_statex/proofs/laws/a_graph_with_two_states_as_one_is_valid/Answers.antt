use Rattle.sd_statex.proofs.FusionLaws.{fused_is_valid}
use Rattle.sd_statex.proofs.laws.a_graph_with_two_states_as_one_is_valid.Goals as goal

pub returns : goal.returns
returns c = fused_is_valid
