use Rattle.sd_made.proofs.depths_lemmas.Few.{few_about}
use Rattle.sd_made.proofs.depths.laws.items_of_the_bound_graph_of_a_program_have_few_about.Goals as goal

pub returns : goal.returns
returns c = few_about
