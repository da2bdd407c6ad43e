use Rattle.sd_work.proofs.going.MemoriesKept.{memories-ordered}
use Rattle.sd_work.proofs.going.Machines.{well_formed-settled}
use Rattle.sd_graph.specs.Unfold.{run_of}
use Rattle.sd_graph.proofs.UnfoldedOrder.{run_is_ordered}
use Rattle.sd_graph.proofs.UnfoldedPools.{run_has_ordered_pools}
use Rattle.sd_graph.proofs.laws.a_machine_of_a_graph_is_well_formed.Goals as goal

pub returns : goal.returns
returns c = λ tree memory turns. well_formed-settled (run_of tree memory) turns (run_is_ordered tree memory) (memories-ordered (run_of tree memory) 0 (run_has_ordered_pools tree memory))
