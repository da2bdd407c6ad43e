use Rattle.sd_cut.proofs.OverWindows.{over-windows}
use Rattle.sd_cut.proofs.laws.an_item_over_windows_is_the_item.Goals as goal

pub returns : goal.returns
returns c = over-windows
