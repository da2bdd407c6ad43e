use Rattle.sd_words.proofs.OneCall.{call_there}
use Rattle.sd_words.proofs.laws.words_that_parse_are_a_call.Goals as goal

pub returns : goal.returns
returns c = call_there
