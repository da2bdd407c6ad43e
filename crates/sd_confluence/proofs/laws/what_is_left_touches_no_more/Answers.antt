use Rattle.sd_confluence.proofs.left.StillLeft.{new-left, runs-left, left-touches}
use Rattle.sd_confluence.proofs.laws.what_is_left_touches_no_more.Goals as goal

pub returns-clause-begins : goal.returns-clause-begins
returns-clause-begins g c = new-left

pub returns-clause-stays : goal.returns-clause-stays
returns-clause-stays g c = runs-left

pub returns-clause-touches : goal.returns-clause-touches
returns-clause-touches g c = left-touches
