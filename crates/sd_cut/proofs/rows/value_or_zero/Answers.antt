use Rattle.std.proofs.Common.{sym, ◌∙◌}
use Rattle.sd_work.specs.Memory.{elements_of}
use Rattle.sd_mem.specs.mem.Cells.{array_lent}
use Rattle.sd_cut.proofs.RowLemmas.{none_zero}
use Rattle.sd_cut.proofs.rows.value_or_zero.Goals as goal

pub returns-in-None : goal.returns-in-None
returns-in-None c = none_zero (elements_of (array_lent c.args.elements)) c.args.place (sym c.get.ensures ∙ c.in-None.is)
