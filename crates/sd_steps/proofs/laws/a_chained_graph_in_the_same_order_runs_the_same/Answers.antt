use Rattle.sd_steps.proofs.Chains.{chain_same}
use Rattle.sd_steps.proofs.laws.a_chained_graph_in_the_same_order_runs_the_same.Goals as goal

pub returns : goal.returns
returns c = λ tree new steps. chain_same steps tree new
