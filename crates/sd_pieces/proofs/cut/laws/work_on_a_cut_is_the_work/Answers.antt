use Rattle.sd_pieces.proofs.cut_lemmas.OnCut.{on-cut}
use Rattle.sd_pieces.proofs.cut.laws.work_on_a_cut_is_the_work.Goals as goal

pub returns : goal.returns
returns g c = λ naming marking term most memories cut others turns. on-cut naming marking term most memories cut others turns
