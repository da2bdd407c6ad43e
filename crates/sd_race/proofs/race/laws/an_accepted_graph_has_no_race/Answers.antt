use Rattle.sd_race.proofs.race_lemmas.FirstLaws.{no-race}
use Rattle.sd_race.proofs.race.laws.an_accepted_graph_has_no_race.Goals as goal

pub returns : goal.returns
returns c = no-race
