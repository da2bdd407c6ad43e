use Rattle.sd_promise.proofs.Files.{run_is_said, said_is_run}
use Rattle.sd_promise.proofs.laws.files_say_what_their_graph_runs.Goals as goal

pub returns-clause-run : goal.returns-clause-run
returns-clause-run c = run_is_said

pub returns-clause-said : goal.returns-clause-said
returns-clause-said c = said_is_run
