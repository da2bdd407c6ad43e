use Rattle.sd_made_valid.proofs.apart_lemmas.Graphs.{links_right}
use Rattle.sd_made_valid.proofs.apart.laws.the_bound_graph_of_a_text_has_right_links.Goals as goal

pub returns : goal.returns
returns c = links_right
