use Rattle.std.proofs.Common.{map}
use Rattle.sd_order.specs.table.Told.{told}
use Rattle.sd_left.specs.left.Telling.{flags_told, ready_moves}
use Rattle.sd_left.specs.left.Tells.{tells}
use Rattle.sd_left.proofs.left_lemmas.Readiness.{CountedUpTo}
use Rattle.sd_left.proofs.left.count.moves_of_parts.Given as goal

abbrev pub invariant-loop-number : goal.invariant-loop-number
invariant-loop-number l =
    CountedUpTo tells l.parts (told l.order) (flags_told (map tells l.parts)) (ready_moves (told l.order) (flags_told (map tells l.parts)) 0 (map tells l.parts)) l.number l.moves.items
