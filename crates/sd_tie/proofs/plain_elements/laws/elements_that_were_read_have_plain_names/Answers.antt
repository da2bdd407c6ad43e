use Rattle.sd_tie.proofs.plain_elements_lemmas.Read.{elements_plain}
use Rattle.sd_tie.proofs.plain_elements.laws.elements_that_were_read_have_plain_names.Goals as goal

pub returns : goal.returns
returns c = elements_plain
