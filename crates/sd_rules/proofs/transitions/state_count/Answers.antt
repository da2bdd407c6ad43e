use Rattle.std.proofs.Common.{arith}
use Rattle.sd_graph.proofs.TreeLemmas.{states_counted}
use Rattle.sd_rules.proofs.transitions.state_count.Goals as goal

pub returns : goal.returns
returns c = omega (arith, states_counted c.args.states.now)
