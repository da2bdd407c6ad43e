use Rattle.sd_graph.proofs.UnfoldedCycles.{run_pays}
use Rattle.sd_elab.specs.elab.Elaboration.{graph_of}
use Rattle.sd_made.proofs.elab_lemmas.UpwardsLemmas.{program_leads_upwards}
use Rattle.sd_made.proofs.elab.upwards.the_graph_of_a_program_leads_upwards.Goals as goal

pub returns-clause-upwards : goal.returns-clause-upwards
returns-clause-upwards c = program_leads_upwards

pub returns-clause-cycles : goal.returns-clause-cycles
returns-clause-cycles c = λ program memory. run_pays (graph_of program) memory (program_leads_upwards program)
