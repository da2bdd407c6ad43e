use Rattle.sd_made.proofs.places_lemmas.Sizes.{sizes_bound}
use Rattle.sd_made.proofs.places.laws.the_bound_graph_of_a_program_names_no_size_symbol.Goals as goal

pub returns : goal.returns
returns c = sizes_bound
