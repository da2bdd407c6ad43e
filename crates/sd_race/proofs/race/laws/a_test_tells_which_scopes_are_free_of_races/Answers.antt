use Rattle.sd_race.proofs.race_lemmas.Deciding.{free-decides}
use Rattle.sd_race.proofs.race.laws.a_test_tells_which_scopes_are_free_of_races.Goals as goal

pub returns : goal.returns
returns c = free-decides
