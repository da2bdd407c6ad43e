use Rattle.sd_race.proofs.race_lemmas.FirstLaws.{one-race}
use Rattle.sd_race.proofs.race.laws.a_graph_has_one_race.Goals as goal

pub returns : goal.returns
returns c = one-race
