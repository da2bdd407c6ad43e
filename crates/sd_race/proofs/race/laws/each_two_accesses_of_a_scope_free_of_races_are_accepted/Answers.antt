use Rattle.sd_race.proofs.race_lemmas.Members.{accepted-two}
use Rattle.sd_race.proofs.race.laws.each_two_accesses_of_a_scope_free_of_races_are_accepted.Goals as goal

pub returns : goal.returns
returns c = λ scope access other free member second. accepted-two scope scope.accesses free access other member second
