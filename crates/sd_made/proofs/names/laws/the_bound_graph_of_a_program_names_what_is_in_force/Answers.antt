use Rattle.sd_made.proofs.names_lemmas.Names.{names_bound}
use Rattle.sd_made.proofs.names.laws.the_bound_graph_of_a_program_names_what_is_in_force.Goals as goal

pub returns : goal.returns
returns c = names_bound
