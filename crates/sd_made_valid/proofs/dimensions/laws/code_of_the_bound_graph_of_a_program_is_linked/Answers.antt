use Rattle.sd_made_valid.proofs.dimensions_lemmas.Linked.{code_linked}
use Rattle.sd_made_valid.proofs.dimensions.laws.code_of_the_bound_graph_of_a_program_is_linked.Goals as goal

pub returns : goal.returns
returns c = code_linked
