use Rattle.sd_steps.proofs.Chains.{chain_normal}
use Rattle.sd_steps.proofs.laws.a_chained_graph_is_normal.Goals as goal

pub returns : goal.returns
returns c = λ tree new steps. chain_normal steps tree new
