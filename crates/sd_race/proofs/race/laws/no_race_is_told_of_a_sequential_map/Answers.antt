use Rattle.sd_race.proofs.race_lemmas.Asked.{race-of}
use Rattle.sd_race.proofs.race.laws.no_race_is_told_of_a_sequential_map.Goals as goal

pub returns : goal.returns
returns c = race-of
