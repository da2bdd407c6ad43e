use Rattle.sd_words.proofs.OneCall.{IsCall-unique}
use Rattle.sd_words.proofs.laws.words_are_one_call.Goals as goal

pub returns : goal.returns
returns c = IsCall-unique
