use Rattle.sd_validity.proofs.rules_lemmas.InForceLemmas.{names_what_is_in_force}
use Rattle.sd_validity.proofs.rules.laws.a_graph_with_its_names_names_what_is_in_force.Goals as goal

pub returns : goal.returns
returns c = names_what_is_in_force
