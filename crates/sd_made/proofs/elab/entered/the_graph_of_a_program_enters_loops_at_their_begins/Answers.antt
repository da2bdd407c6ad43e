use Rattle.sd_made.proofs.elab_lemmas.LoopsClosed.{program_enters_loops_at_begins}
use Rattle.sd_made.proofs.elab.entered.the_graph_of_a_program_enters_loops_at_their_begins.Goals as goal

pub returns : goal.returns
returns c = program_enters_loops_at_begins
