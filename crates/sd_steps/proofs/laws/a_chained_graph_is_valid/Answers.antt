use Rattle.sd_steps.proofs.Chains.{chain_valid}
use Rattle.sd_steps.proofs.laws.a_chained_graph_is_valid.Goals as goal

pub returns : goal.returns
returns c = λ tree new steps. chain_valid steps tree new
