use Rattle.sd_graph.specs.TreeParts.{containers_of}
use Rattle.sd_graph.proofs.Openings.{opens}
use Rattle.sd_mem.proofs.mem_lemmas.GraphWholes.{zeros_are, whole_here}
use Rattle.sd_mem.proofs.mem.laws.memories_of_a_graph_are_whole.Goals as goal

pub returns-clause-zeros : goal.returns-clause-zeros
returns-clause-zeros c = λ tree. zeros_are (containers_of tree)

pub returns-clause-opened : goal.returns-clause-opened
returns-clause-opened c = opens

pub returns-clause-here : goal.returns-clause-here
returns-clause-here c = λ tree. whole_here (containers_of tree)
