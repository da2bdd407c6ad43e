use Rattle.sd_safe.proofs.safe_lemmas.Whole.{may_interleave}
use Rattle.sd_safe.proofs.safe.laws.an_accepted_graph_may_interleave.Goals as goal

pub returns : goal.returns
returns c = may_interleave
