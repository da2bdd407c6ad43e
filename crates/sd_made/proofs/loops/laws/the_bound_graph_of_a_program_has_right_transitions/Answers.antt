use Rattle.sd_made.proofs.loops_lemmas.Transitions.{transitions_bound}
use Rattle.sd_made.proofs.loops.laws.the_bound_graph_of_a_program_has_right_transitions.Goals as goal

pub returns : goal.returns
returns c = transitions_bound
