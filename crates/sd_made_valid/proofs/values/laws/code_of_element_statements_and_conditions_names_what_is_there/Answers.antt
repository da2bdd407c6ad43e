use Rattle.sd_made_valid.proofs.values_lemmas.Values.{statement_known, condition_known}
use Rattle.sd_made_valid.proofs.values.laws.code_of_element_statements_and_conditions_names_what_is_there.Goals as goal

pub returns-clause-statements : goal.returns-clause-statements
returns-clause-statements c = statement_known

pub returns-clause-conditions : goal.returns-clause-conditions
returns-clause-conditions c = condition_known
