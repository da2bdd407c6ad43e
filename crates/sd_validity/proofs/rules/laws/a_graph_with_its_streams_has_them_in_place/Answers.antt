use Rattle.sd_validity.proofs.rules_lemmas.InPlaceLemmas.{has_streams_in_place}
use Rattle.sd_validity.proofs.rules.laws.a_graph_with_its_streams_has_them_in_place.Goals as goal

pub returns : goal.returns
returns c = has_streams_in_place
