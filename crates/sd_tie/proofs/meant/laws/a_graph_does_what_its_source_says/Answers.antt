use Rattle.sd_tie.proofs.meant_lemmas.Sources.{source_runs, source_is_run, run_is_said}
use Rattle.sd_tie.proofs.meant.laws.a_graph_does_what_its_source_says.Goals as goal

pub returns-clause-said : goal.returns-clause-said
returns-clause-said c = source_is_run

pub returns-clause-run : goal.returns-clause-run
returns-clause-run c = run_is_said

pub returns-clause-left_to_right : goal.returns-clause-left_to_right
returns-clause-left_to_right c = source_runs
