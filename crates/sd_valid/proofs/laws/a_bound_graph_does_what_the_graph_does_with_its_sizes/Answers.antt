use Rattle.sd_valid.proofs.SizedUnfold.{run_work}
use Rattle.sd_valid.proofs.BoundSizes.{bound_run}
use Rattle.sd_valid.proofs.laws.a_bound_graph_does_what_the_graph_does_with_its_sizes.Goals as goal

pub returns-clause-binding : goal.returns-clause-binding
returns-clause-binding c = bound_run

pub returns-clause-run : goal.returns-clause-run
returns-clause-run c = λ tree sizes memory fit. run_work sizes fit tree memory
