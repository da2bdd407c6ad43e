use Rattle.sd_left.proofs.fired_lemmas.Kept.{kept-item-fired, kept-point-fired, kept-element-fired}
use Rattle.sd_left.proofs.fired.laws.a_move_of_a_part_changes_its_list_there_alone.Goals as goal

pub returns : goal.returns
returns g c = record { items = kept-item-fired; points = kept-point-fired; elements = kept-element-fired }
