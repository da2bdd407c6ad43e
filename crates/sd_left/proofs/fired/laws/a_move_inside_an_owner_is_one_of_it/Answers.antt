use Rattle.sd_left.proofs.fired_lemmas.Owners.{inside-point, inside-element, inside-run}
use Rattle.sd_left.proofs.fired.laws.a_move_inside_an_owner_is_one_of_it.Goals as goal

pub returns : goal.returns
returns c = record { point = inside-point; element = inside-element; run = inside-run }
