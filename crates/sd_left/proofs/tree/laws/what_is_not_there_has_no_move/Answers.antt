use Rattle.sd_left.proofs.tree_lemmas.Nowhere.{no-item-moves, no-point-moves, no-element-moves, ended-stays}
use Rattle.sd_left.proofs.tree.laws.what_is_not_there_has_no_move.Goals as goal

pub returns : goal.returns
returns c = record { items = no-item-moves; points = no-point-moves; elements = no-element-moves; ended = ended-stays }
