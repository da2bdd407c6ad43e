use Rattle.sd_made_valid.proofs.within_lemmas.Texts.{text_within}
use Rattle.sd_made_valid.proofs.within.laws.the_bound_graph_of_a_text_is_within_its_limits.Goals as goal

pub returns : goal.returns
returns c = text_within
