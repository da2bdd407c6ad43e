use Rattle.sd_made.proofs.places_lemmas.Bound.{streams_bound}
use Rattle.sd_made.proofs.places.laws.the_bound_graph_of_a_program_has_its_streams_in_place.Goals as goal

pub returns : goal.returns
returns c = streams_bound
