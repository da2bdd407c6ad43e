use Rattle.sd_pieces.proofs.cut_lemmas.NamedWork.{term-goes}
use Rattle.sd_pieces.proofs.cut.laws.work_by_other_numbers_comes_to_the_same.Goals as goal

pub returns : goal.returns
returns g c = λ naming depth term most memories others turns one named same. term-goes naming one depth term named most memories others turns same
