use Rattle.sd_order.specs.items.Joined.{mode_at}
use Rattle.sd_order.proofs.items_lemmas.Telling.{IsTold}
use Rattle.sd_order.proofs.items.order.tell_from.Given as goal

abbrev pub invariant-loop-to : goal.invariant-loop-to
invariant-loop-to l = IsTold l.each l.from l.to (mode_at l.modes.items) l.initial.table.items l.table.items
