use Rattle.sd_validity.proofs.things_lemmas.Walked.{places_walked}
use Rattle.sd_validity.proofs.things.laws.what_stands_before_a_place_stands_in_its_graph.Goals as goal

pub returns : goal.returns
returns c = places_walked
