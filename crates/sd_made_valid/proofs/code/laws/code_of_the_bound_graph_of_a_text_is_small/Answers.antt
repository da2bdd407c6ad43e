use Rattle.sd_made_valid.proofs.code_lemmas.Small.{code_small}
use Rattle.sd_made_valid.proofs.code.laws.code_of_the_bound_graph_of_a_text_is_small.Goals as goal

pub returns : goal.returns
returns c = code_small
