use Rattle.sd_moves.proofs.numbered_lemmas.Counted.{counted, count-finished}
use Rattle.sd_moves.proofs.numbered_lemmas.Placed.{placed}
use Rattle.sd_moves.proofs.numbered.laws.next_moves_are_counted.Goals as goal

pub returns : goal.returns
returns g c = record { count = counted; place = placed; finished = count-finished }
