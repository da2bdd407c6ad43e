use Rattle.sd_race.proofs.cover_lemmas.Covered.{kind-covered}
use Rattle.sd_race.proofs.cover.laws.what_is_touched_lies_in_the_boxes.Goals as goal

pub returns : goal.returns
returns c = kind-covered
