use Rattle.sd_exchange.proofs.reorder_lemmas.Alike.{reordered-end, order-back, safe-reordered}
use Rattle.sd_exchange.proofs.reorder.laws.parts_in_another_order_end_alike.Goals as goal

pub returns : goal.returns
returns g c = record { ends = reordered-end; back = order-back; safe = safe-reordered }
