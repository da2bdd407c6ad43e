use Rattle.sd_made_valid.proofs.maps_lemmas.Parameters.{parameters_few}
use Rattle.sd_made_valid.proofs.maps.laws.maps_of_the_bound_graph_of_a_text_have_few_parameters.Goals as goal

pub returns : goal.returns
returns c = parameters_few
