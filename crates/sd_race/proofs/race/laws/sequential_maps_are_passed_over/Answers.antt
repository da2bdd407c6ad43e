use Rattle.sd_race.proofs.race_lemmas.Asked.{accepted-where}
use Rattle.sd_race.proofs.race.laws.sequential_maps_are_passed_over.Goals as goal

pub returns : goal.returns
returns c = accepted-where
