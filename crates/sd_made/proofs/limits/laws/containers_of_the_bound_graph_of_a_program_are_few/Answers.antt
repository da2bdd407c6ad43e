use Rattle.sd_made.proofs.limits_lemmas.Containers.{containers_few}
use Rattle.sd_made.proofs.limits.laws.containers_of_the_bound_graph_of_a_program_are_few.Goals as goal

pub returns : goal.returns
returns c = containers_few
