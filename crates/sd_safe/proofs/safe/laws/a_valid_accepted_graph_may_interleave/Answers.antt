use Rattle.sd_safe.proofs.fit_lemmas.Fitting.{graph-fit}
use Rattle.sd_safe.proofs.safe_lemmas.Whole.{may_interleave}
use Rattle.sd_safe.proofs.safe.laws.a_valid_accepted_graph_may_interleave.Goals as goal

pub returns : goal.returns
returns c = λ tree memory valid normal accepted. may_interleave tree memory (graph-fit tree valid normal) accepted
