use Rattle.sd_subset.proofs.boxes_lemmas.Orders.{least-orders, greatest-orders}
use Rattle.sd_subset.proofs.boxes.laws.orders_of_replacing_make_no_difference.Goals as goal

pub returns-clause-least : goal.returns-clause-least
returns-clause-least c = least-orders

pub returns-clause-greatest : goal.returns-clause-greatest
returns-clause-greatest c = greatest-orders
