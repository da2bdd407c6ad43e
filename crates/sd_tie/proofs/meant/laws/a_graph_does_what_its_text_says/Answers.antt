use Rattle.sd_tie.proofs.meant_lemmas.Texts.{text_is_run, run_of_text}
use Rattle.sd_tie.proofs.meant.laws.a_graph_does_what_its_text_says.Goals as goal

pub returns-clause-said : goal.returns-clause-said
returns-clause-said c = text_is_run

pub returns-clause-run : goal.returns-clause-run
returns-clause-run c = run_of_text
