use Rattle.sd_validity.proofs.paths_lemmas.Found.{places_found}
use Rattle.sd_validity.proofs.paths.laws.the_graph_of_a_place_is_found_at_its_path.Goals as goal

pub returns : goal.returns
returns c = places_found
