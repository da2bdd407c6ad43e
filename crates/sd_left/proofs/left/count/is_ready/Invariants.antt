use Rattle.std.proofs.Common.{◌≡◌, map}
use Rattle.sd_work.specs.Residual.{is_ready}
use Rattle.sd_order.specs.table.Told.{told}
use Rattle.sd_left.specs.left.Telling.{flags_told}
use Rattle.sd_left.specs.left.Tells.{tells}
use Rattle.sd_left.proofs.left_lemmas.Readiness.{ready_behind}
use Rattle.sd_left.proofs.left.count.is_ready.Given as goal

abbrev pub invariant-loop-other : goal.invariant-loop-other
invariant-loop-other l = is_ready (told l.order) (flags_told (map tells l.parts)) l.number ≡ ready_behind tells l.parts (told l.order) l.number l.other
