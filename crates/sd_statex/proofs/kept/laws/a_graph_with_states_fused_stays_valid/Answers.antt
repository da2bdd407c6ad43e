use Rattle.sd_statex.proofs.kept_lemmas.ValidFused.{fused_valid}
use Rattle.sd_statex.proofs.kept.laws.a_graph_with_states_fused_stays_valid.Goals as goal

pub returns : goal.returns
returns c = fused_valid
