use Rattle.sd_made.proofs.links_lemmas.Linked.{bound_linked}
use Rattle.sd_made.proofs.links.laws.the_bound_graph_of_a_program_links_its_arguments.Goals as goal

pub returns : goal.returns
returns c = bound_linked
