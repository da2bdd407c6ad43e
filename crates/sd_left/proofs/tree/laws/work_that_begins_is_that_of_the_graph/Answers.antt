use Rattle.sd_left.proofs.tree_lemmas.Begins.{items-begin, points-begin, state-begins, run-begins}
use Rattle.sd_left.proofs.tree.laws.work_that_begins_is_that_of_the_graph.Goals as goal

pub returns : goal.returns
returns c = record { items = items-begin; points = points-begin; state = state-begins; run = run-begins }
