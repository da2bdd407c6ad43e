use Rattle.sd_subset.proofs.boxes_lemmas.Bounding.{least-below, greatest-above}
use Rattle.sd_subset.proofs.boxes.laws.least_and_greatest_bound_at_each_point.Goals as goal

pub returns-clause-least : goal.returns-clause-least
returns-clause-least c = least-below

pub returns-clause-greatest : goal.returns-clause-greatest
returns-clause-greatest c = greatest-above
