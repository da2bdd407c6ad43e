use Rattle.sd_made_valid.proofs.ranks_lemmas.Programs.{variables_ranked}
use Rattle.sd_made_valid.proofs.ranks.laws.variables_of_the_bound_graph_of_a_text_have_ranks.Goals as goal

pub returns : goal.returns
returns c = variables_ranked
