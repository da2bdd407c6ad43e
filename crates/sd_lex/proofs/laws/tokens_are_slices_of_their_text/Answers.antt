use Rattle.sd_lex.proofs.SpanLaws.{tokens_of_text}
use Rattle.sd_lex.proofs.laws.tokens_are_slices_of_their_text.Goals as goal

pub returns : goal.returns
returns c = tokens_of_text
