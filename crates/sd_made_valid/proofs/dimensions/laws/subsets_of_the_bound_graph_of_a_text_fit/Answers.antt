use Rattle.sd_made_valid.proofs.dimensions_lemmas.Subsets.{subsets_fit}
use Rattle.sd_made_valid.proofs.dimensions.laws.subsets_of_the_bound_graph_of_a_text_fit.Goals as goal

pub returns : goal.returns
returns c = subsets_fit
