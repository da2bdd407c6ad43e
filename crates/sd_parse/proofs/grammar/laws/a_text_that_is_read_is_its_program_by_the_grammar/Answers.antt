use Rattle.sd_parse.proofs.grammar_lemmas.Lines.{read_is_tree}
use Rattle.sd_parse.proofs.grammar.laws.a_text_that_is_read_is_its_program_by_the_grammar.Goals as goal

pub returns : goal.returns
returns c = read_is_tree
