use Rattle.sd_validity.proofs.rules_lemmas.UpwardsLemmas.{leads_upwards}
use Rattle.sd_validity.proofs.rules.laws.a_graph_with_right_transitions_leads_upwards.Goals as goal

pub returns : goal.returns
returns c = leads_upwards
