use Rattle.sd_moves.proofs.numbered_lemmas.PartMoves.{fire-part, fire-active, other-part}
use Rattle.sd_moves.proofs.numbered.laws.a_move_in_a_part_changes_that_part_alone.Goals as goal

pub returns : goal.returns
returns g c = record { part = fire-part; active = fire-active; others = other-part }
