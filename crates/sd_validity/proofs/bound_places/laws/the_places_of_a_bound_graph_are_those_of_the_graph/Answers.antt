use Rattle.sd_validity.proofs.bound_places_lemmas.BoundPlaces.{graph_bound}
use Rattle.sd_validity.proofs.bound_places.laws.the_places_of_a_bound_graph_are_those_of_the_graph.Goals as goal

pub returns : goal.returns
returns c = graph_bound
