use Rattle.sd_made_valid.proofs.graphs_lemmas.Places.{nested_little}
use Rattle.sd_made_valid.proofs.graphs.laws.graphs_of_the_bound_graph_of_a_text_are_nested_little.Goals as goal

pub returns : goal.returns
returns c = nested_little
