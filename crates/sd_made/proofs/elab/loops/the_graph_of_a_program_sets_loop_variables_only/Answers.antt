use Rattle.sd_made.proofs.elab_lemmas.LoopShapes.{program_sets_loop_variables_only}
use Rattle.sd_made.proofs.elab.loops.the_graph_of_a_program_sets_loop_variables_only.Goals as goal

pub returns : goal.returns
returns c = program_sets_loop_variables_only
