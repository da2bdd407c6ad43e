use Rattle.sd_graph.specs.Unfold.{run_of}
use Rattle.sd_graph.proofs.UnfoldedThere.{run_there}
use Rattle.sd_graph.proofs.StillThere.{runs_there}
use Rattle.sd_graph.proofs.TouchesThere.{touch_there}
use Rattle.sd_graph.proofs.Openings.{opens}
use Rattle.sd_graph.proofs.laws.a_run_of_a_graph_touches_what_is_there.Goals as goal

pub returns-clause-begins : goal.returns-clause-begins
returns-clause-begins c = run_there

pub returns-clause-stays : goal.returns-clause-stays
returns-clause-stays c = λ tree memory steps turns picks force streams linked of. runs_there (run_of tree memory) steps picks turns (run_there tree memory force streams linked of)

pub returns-clause-opens : goal.returns-clause-opens
returns-clause-opens c = opens

pub returns-clause-touches : goal.returns-clause-touches
returns-clause-touches c = λ memories term touch there touched. touch_there term memories touch there touched
