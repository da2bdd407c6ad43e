use Rattle.sd_validity.proofs.rules_lemmas.LinkedLemmas.{is_linked}
use Rattle.sd_validity.proofs.rules.laws.a_graph_with_right_links_is_linked.Goals as goal

pub returns : goal.returns
returns c = is_linked
