use Rattle.sd_parse.proofs.grammar_lemmas.SmallSource.{small_is_read}
use Rattle.sd_parse.proofs.grammar.laws.a_small_source_is_read_as_its_program.Goals as goal

pub returns : goal.returns
returns c = small_is_read
