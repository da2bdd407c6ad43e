use Rattle.sd_work.proofs.Changes.{apply-apply}
use Rattle.sd_work.proofs.laws.changes_at_different_places_commute.Goals as goal

pub returns : goal.returns
returns c = apply-apply
