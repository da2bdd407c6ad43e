use Rattle.sd_made.proofs.elab_lemmas.StatesInForce.{program_names_in_force}
use Rattle.sd_made.proofs.elab.in_force.the_graph_of_a_program_names_what_is_in_force.Goals as goal

pub returns : goal.returns
returns c = program_names_in_force
