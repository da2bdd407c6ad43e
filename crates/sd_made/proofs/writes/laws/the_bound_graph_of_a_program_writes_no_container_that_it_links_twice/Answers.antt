use Rattle.sd_made.proofs.writes_lemmas.Bound.{bound_apart}
use Rattle.sd_made.proofs.writes.laws.the_bound_graph_of_a_program_writes_no_container_that_it_links_twice.Goals as goal

pub returns : goal.returns
returns c = bound_apart
