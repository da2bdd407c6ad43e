use Rattle.sd_made_valid.proofs.ends_lemmas.Ends.{ends_small}
use Rattle.sd_made_valid.proofs.ends.laws.ends_of_loops_of_the_bound_graph_of_a_program_are_small.Goals as goal

pub returns : goal.returns
returns c = ends_small
