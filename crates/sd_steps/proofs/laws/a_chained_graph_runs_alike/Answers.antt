use Rattle.sd_steps.proofs.Chains.{chain_alike}
use Rattle.sd_steps.proofs.laws.a_chained_graph_runs_alike.Goals as goal

pub returns : goal.returns
returns c = record {
  ends = λ tree new steps valid normal is. (chain_alike steps tree new valid normal is).0;
  began = λ tree new steps valid normal is. (chain_alike steps tree new valid normal is).1;
}
