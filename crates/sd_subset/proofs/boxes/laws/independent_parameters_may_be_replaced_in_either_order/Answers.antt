use Rattle.sd_subset.proofs.boxes_lemmas.Orders.{least-swaps, greatest-swaps}
use Rattle.sd_subset.proofs.boxes.laws.independent_parameters_may_be_replaced_in_either_order.Goals as goal

pub returns-clause-least : goal.returns-clause-least
returns-clause-least c = least-swaps

pub returns-clause-greatest : goal.returns-clause-greatest
returns-clause-greatest c = greatest-swaps
