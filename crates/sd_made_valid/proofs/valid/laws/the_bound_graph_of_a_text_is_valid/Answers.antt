use Rattle.sd_made_valid.proofs.valid_lemmas.Rules.{text_valid, text_none}
use Rattle.sd_made_valid.proofs.valid.laws.the_bound_graph_of_a_text_is_valid.Goals as goal

pub returns-clause-valid : goal.returns-clause-valid
returns-clause-valid c = text_valid

pub returns-clause-none : goal.returns-clause-none
returns-clause-none c = text_none
