use Rattle.sd_made_valid.proofs.counted_lemmas.Rule.{dimensions_kept}
use Rattle.sd_made_valid.proofs.counted.laws.the_bound_graph_of_a_program_that_was_read_keeps_the_rule_on_dimensions.Goals as goal

pub returns : goal.returns
returns c = dimensions_kept
