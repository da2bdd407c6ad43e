use Rattle.std.proofs.Common.{refl}
use Rattle.sd_left.proofs.tree_lemmas.Sequence.{first-added}
use Rattle.sd_left.proofs.tree.laws.the_first_unfinished_point_moves.Goals as goal

pub returns : goal.returns
returns c = record { none = λ kind context memories. refl; more = first-added }
