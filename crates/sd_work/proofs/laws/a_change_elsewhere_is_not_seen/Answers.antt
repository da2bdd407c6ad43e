use Rattle.sd_work.proofs.Changes.{look-apply, waiting-apply}
use Rattle.sd_work.proofs.laws.a_change_elsewhere_is_not_seen.Goals as goal

pub returns-clause-element : goal.returns-clause-element
returns-clause-element c = look-apply

pub returns-clause-stream : goal.returns-clause-stream
returns-clause-stream c = waiting-apply
