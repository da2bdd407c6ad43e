use Rattle.sd_order.proofs.items_lemmas.Telling.{ArePast}
use Rattle.sd_order.proofs.items.order.order_of.Given as goal

abbrev pub invariant-loop-from : goal.invariant-loop-from
invariant-loop-from l = ArePast l.each l.from l.table.items
