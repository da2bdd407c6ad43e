use Rattle.sd_made_valid.proofs.nesting_lemmas.Nested.{nesting_holds}
use Rattle.sd_made_valid.proofs.nesting.laws.the_bound_graph_of_a_program_has_right_links.Goals as goal

pub returns : goal.returns
returns c = nesting_holds
