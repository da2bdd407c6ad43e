use Rattle.sd_made.proofs.limits_lemmas.Expressions.{expressions_small}
use Rattle.sd_made.proofs.limits.laws.expressions_of_the_bound_graph_of_a_program_are_small.Goals as goal

pub returns : goal.returns
returns c = expressions_small
