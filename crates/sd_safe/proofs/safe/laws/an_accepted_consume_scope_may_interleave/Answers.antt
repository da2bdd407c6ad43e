use Rattle.sd_safe.proofs.safe_lemmas.Whole.{pool-may_interleave}
use Rattle.sd_safe.proofs.safe.laws.an_accepted_consume_scope_may_interleave.Goals as goal

pub returns : goal.returns
returns c = pool-may_interleave
