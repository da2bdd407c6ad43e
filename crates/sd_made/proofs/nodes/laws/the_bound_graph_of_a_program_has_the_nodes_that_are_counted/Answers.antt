use Rattle.sd_made.proofs.nodes_lemmas.Kept.{nodes_same}
use Rattle.sd_made.proofs.nodes.laws.the_bound_graph_of_a_program_has_the_nodes_that_are_counted.Goals as goal

pub returns : goal.returns
returns c = nodes_same
