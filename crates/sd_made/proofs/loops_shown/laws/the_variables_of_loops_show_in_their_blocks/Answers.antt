use Rattle.sd_made.proofs.loops_shown_lemmas.FunctionShown.{function_shown, none_shown_first}
use Rattle.sd_made.proofs.loops_shown.laws.the_variables_of_loops_show_in_their_blocks.Goals as goal

pub returns-clause-shown : goal.returns-clause-shown
returns-clause-shown c = function_shown

pub returns-clause-before : goal.returns-clause-before
returns-clause-before c = none_shown_first
