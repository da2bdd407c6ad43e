use Rattle.sd_left.proofs.tree_lemmas.Moves.{item-moves, point-moves, element-moves}
use Rattle.sd_left.proofs.tree.laws.a_move_of_a_part_is_one_of_its_list.Goals as goal

pub returns : goal.returns
returns c = record { items = item-moves; points = point-moves; elements = element-moves }
