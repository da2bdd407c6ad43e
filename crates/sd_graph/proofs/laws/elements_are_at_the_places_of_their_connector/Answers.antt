use Rattle.sd_graph.proofs.ElementPlaces.{elements_are_at_places}
use Rattle.sd_graph.proofs.laws.elements_are_at_the_places_of_their_connector.Goals as goal

pub returns : goal.returns
returns c = elements_are_at_places
