use Rattle.sd_windows.proofs.CutItems.{cut-items}
use Rattle.sd_windows.proofs.laws.items_are_cut_into_their_pieces.Goals as goal

pub returns : goal.returns
returns c = cut-items
