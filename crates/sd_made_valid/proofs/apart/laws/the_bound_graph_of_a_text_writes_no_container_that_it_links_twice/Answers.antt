use Rattle.sd_made_valid.proofs.apart_lemmas.Graphs.{graph_apart}
use Rattle.sd_made_valid.proofs.apart.laws.the_bound_graph_of_a_text_writes_no_container_that_it_links_twice.Goals as goal

pub returns : goal.returns
returns c = graph_apart
