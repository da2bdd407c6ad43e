use Rattle.sd_validity.proofs.bound_places_lemmas.Gone.{sizes_gone}
use Rattle.sd_validity.proofs.bound_places.laws.a_bound_graph_names_no_size.Goals as goal

pub returns : goal.returns
returns c = sizes_gone
