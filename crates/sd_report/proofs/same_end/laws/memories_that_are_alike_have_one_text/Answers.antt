use Rattle.sd_report.proofs.same_end_lemmas.Texts.{text_same}
use Rattle.sd_report.proofs.same_end.laws.memories_that_are_alike_have_one_text.Goals as goal

pub returns : goal.returns
returns c = text_same
