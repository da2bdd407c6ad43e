use Rattle.sd_confluence.proofs.runs.Interleavings.{every-run}
use Rattle.sd_graph.specs.Unfold.{run_of}
use Rattle.sd_safe.proofs.safe_lemmas.Whole.{may_interleave}
use Rattle.sd_safe.proofs.safe.laws.an_accepted_graph_ends_alike.Goals as goal

pub returns : goal.returns
returns c = λ tree memory turns picks others left fit accepted run. every-run (run_of tree memory) turns picks others left (may_interleave tree memory fit accepted) run
