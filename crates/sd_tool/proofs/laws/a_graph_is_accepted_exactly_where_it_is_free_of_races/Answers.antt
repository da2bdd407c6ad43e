use Rattle.sd_tool.proofs.AcceptedScopes.{accepted_is_free, free_is_accepted}
use Rattle.sd_tool.proofs.laws.a_graph_is_accepted_exactly_where_it_is_free_of_races.Goals as goal

pub returns-clause-free : goal.returns-clause-free
returns-clause-free c = accepted_is_free

pub returns-clause-accepted : goal.returns-clause-accepted
returns-clause-accepted c = free_is_accepted
