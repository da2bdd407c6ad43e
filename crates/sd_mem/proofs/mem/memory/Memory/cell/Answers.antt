use Rattle.std.proofs.Common.{pos, slice_index_or, List, ℤ, sym, ap, ◌∙◌}
use Rattle.sd_work.specs.Memory.{elements_of}
use Rattle.sd_mem.specs.mem.Cells.{array_lent}
use Rattle.sd_mem.proofs.mem_lemmas.Streams.{no_member}
use Rattle.sd_mem.proofs.mem.memory.Memory.cell.Goals as goal

pub returns-in-None : goal.returns-in-None
returns-in-None c =
    no_member (elements_of (array_lent c.cells.result)) c.args.place (pos 0) (sym c.in-None.is ∙ c.get.ensures)
    ∙ ap (λ (elements : List ℤ). slice_index_or elements c.args.place (pos 0)) c.cells.ensures.elements
