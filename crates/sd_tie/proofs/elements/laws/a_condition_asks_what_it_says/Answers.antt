use Rattle.sd_tie.proofs.elements_lemmas.Statements.{condition_tied}
use Rattle.sd_tie.proofs.elements.laws.a_condition_asks_what_it_says.Goals as goal

pub returns : goal.returns
returns c = condition_tied
