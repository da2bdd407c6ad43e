use Rattle.sd_tcode.proofs.tcode_lemmas.Ready.{element_whole, element_lengths}
use Rattle.sd_tcode.proofs.tcode.laws.what_is_given_stays_whole.Goals as goal

pub returns : goal.returns
returns c = record { whole = element_whole; lengths = element_lengths }
