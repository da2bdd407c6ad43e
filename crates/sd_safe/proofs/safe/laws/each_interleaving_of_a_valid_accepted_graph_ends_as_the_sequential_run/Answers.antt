use Rattle.std.proofs.Common.{[]}
use Rattle.sd_confluence.proofs.runs.Interleavings.{every-run}
use Rattle.sd_graph.specs.Unfold.{run_of}
use Rattle.sd_safe.proofs.fit_lemmas.Fitting.{graph-fit}
use Rattle.sd_safe.proofs.safe_lemmas.Whole.{may_interleave}
use Rattle.sd_safe.proofs.safe.laws.each_interleaving_of_a_valid_accepted_graph_ends_as_the_sequential_run.Goals as goal

pub returns-clause-picked : goal.returns-clause-picked
returns-clause-picked c = λ tree memory turns picks left valid normal accepted run.
    every-run (run_of tree memory) turns [] picks left (may_interleave tree memory (graph-fit tree valid normal) accepted) run

pub returns-clause-sequential : goal.returns-clause-sequential
returns-clause-sequential c = λ tree memory turns picks left valid normal accepted run.
    every-run (run_of tree memory) turns picks [] left (may_interleave tree memory (graph-fit tree valid normal) accepted) run
