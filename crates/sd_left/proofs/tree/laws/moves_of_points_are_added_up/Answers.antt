use Rattle.std.proofs.Common.{refl}
use Rattle.sd_left.proofs.tree_lemmas.Points.{points-added}
use Rattle.sd_left.proofs.tree.laws.moves_of_points_are_added_up.Goals as goal

pub returns : goal.returns
returns c = record { none = λ kind context memories. refl; more = points-added }
