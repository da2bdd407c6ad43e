use Rattle.sd_part.proofs.Intervals.{exactly-inside}
use Rattle.sd_part.proofs.laws.a_box_in_numbers_has_the_indices_of_its_box.Goals as goal

pub returns : goal.returns
returns c = exactly-inside
