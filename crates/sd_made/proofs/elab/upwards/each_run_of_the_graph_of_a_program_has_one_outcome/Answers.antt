use Rattle.sd_work.proofs.Outcomes.{Run-unique}
use Rattle.sd_work.proofs.ending.HaltingPools.{run-ends_with_pools}
use Rattle.sd_graph.specs.Unfold.{run_of}
use Rattle.sd_graph.proofs.UnfoldedNew.{run_unfolds_new}
use Rattle.sd_graph.proofs.UnfoldedCycles.{run_pays}
use Rattle.sd_elab.specs.elab.Elaboration.{graph_of}
use Rattle.sd_made.proofs.elab_lemmas.UpwardsLemmas.{program_leads_upwards}
use Rattle.sd_made.proofs.elab.upwards.each_run_of_the_graph_of_a_program_has_one_outcome.Goals as goal

pub returns-clause-ends : goal.returns-clause-ends
returns-clause-ends c = λ program memory turns picks.
    run-ends_with_pools (run_of (graph_of program) memory) turns picks
    (run_pays (graph_of program) memory (program_leads_upwards program)) (run_unfolds_new (graph_of program) memory)

pub returns-clause-once : goal.returns-clause-once
returns-clause-once c = λ program memory turns picks. Run-unique (run_of (graph_of program) memory) turns picks
