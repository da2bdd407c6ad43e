use Rattle.sd_confluence.proofs.taking.TakingOrder.{taking-order}
use Rattle.sd_confluence.proofs.laws.the_order_of_taking_makes_no_difference.Goals as goal

pub returns : goal.returns
returns g c = taking-order
