use Rattle.sd_confluence.proofs.left.TwoWays.{each-two}
use Rattle.sd_confluence.proofs.laws.any_two_next_moves_are_of_two_parts_or_two_takes.Goals as goal

pub returns : goal.returns
returns g c = each-two
