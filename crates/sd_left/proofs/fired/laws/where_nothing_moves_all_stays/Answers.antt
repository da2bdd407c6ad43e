use Rattle.sd_left.proofs.fired_lemmas.Nowhere.{nothing-fired, ended-fired}
use Rattle.sd_left.proofs.fired_lemmas.Kept.{kept-no-item, kept-no-point, kept-no-element}
use Rattle.sd_left.proofs.fired.laws.where_nothing_moves_all_stays.Goals as goal

pub returns : goal.returns
returns g c = record { work = nothing-fired; items = kept-no-item; points = kept-no-point; elements = kept-no-element; ended = ended-fired }
