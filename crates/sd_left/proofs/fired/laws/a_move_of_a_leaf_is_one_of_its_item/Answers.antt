use Rattle.sd_left.proofs.fired_lemmas.Comes.{leaf-fired}
use Rattle.sd_left.proofs.fired.laws.a_move_of_a_leaf_is_one_of_its_item.Goals as goal

pub returns : goal.returns
returns c = leaf-fired
