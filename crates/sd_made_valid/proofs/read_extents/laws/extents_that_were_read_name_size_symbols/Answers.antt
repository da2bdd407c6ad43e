use Rattle.sd_made_valid.proofs.read_extents_lemmas.Ends.{extents_named}
use Rattle.sd_made_valid.proofs.read_extents.laws.extents_that_were_read_name_size_symbols.Goals as goal

pub returns : goal.returns
returns c = extents_named
