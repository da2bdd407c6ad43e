use Rattle.std.proofs.Common.{◌≡◌, drop}
use Rattle.sd_work.specs.Residual.{is_ready, ready_from}
use Rattle.sd_order.specs.table.Told.{told}
use Rattle.sd_order.proofs.table.order.Order.is_ready.Given as goal

abbrev pub invariant-loop-from : goal.invariant-loop-from
invariant-loop-from l = is_ready (told l.self) l.finished l.number ≡ ready_from (told l.self) l.from (drop l.from l.finished) l.number
