use Rattle.sd_validity.proofs.rules_lemmas.ValidLemmas.{valid_where_none, none_where_valid}
use Rattle.sd_validity.proofs.rules.laws.a_graph_is_valid_where_no_rule_fails.Goals as goal

pub returns-clause-valid : goal.returns-clause-valid
returns-clause-valid c = valid_where_none

pub returns-clause-none : goal.returns-clause-none
returns-clause-none c = none_where_valid
