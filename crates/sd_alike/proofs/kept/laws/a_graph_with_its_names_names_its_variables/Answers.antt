use Rattle.sd_alike.proofs.kept_lemmas.NamesThere.{valid_names_its_variables}
use Rattle.sd_alike.proofs.kept.laws.a_graph_with_its_names_names_its_variables.Goals as goal

pub returns : goal.returns
returns c = valid_names_its_variables
