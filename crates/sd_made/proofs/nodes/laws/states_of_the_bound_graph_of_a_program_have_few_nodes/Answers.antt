use Rattle.sd_made.proofs.nodes_lemmas.Kept.{nodes_few}
use Rattle.sd_made.proofs.nodes.laws.states_of_the_bound_graph_of_a_program_have_few_nodes.Goals as goal

pub returns : goal.returns
returns c = nodes_few
