use Rattle.sd_cut.proofs.Numbering.{windows-number, marked-of-windows}
use Rattle.sd_cut.proofs.laws.windows_number_what_is_cut.Goals as goal

pub returns : goal.returns
returns c = record { numbers = windows-number; marks = marked-of-windows }
