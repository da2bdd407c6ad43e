use Rattle.std.proofs.Common.{◌↔◌, drop}
use Rattle.sd_work.specs.Memory.{elements_of}
use Rattle.sd_mem.specs.mem.Shaped.{contents_at}
use Rattle.sd_cut.specs.Elements.{AreAsCut}
use Rattle.sd_cut.proofs.elements.are_as_cut.Given as goal

-- all are as they were where those left are
abbrev pub invariant-loop-cut : goal.invariant-loop-cut
invariant-loop-cut l = AreAsCut (elements_of (contents_at l.memory l.container)) (drop l.cut-index l.cuts) ↔ AreAsCut (elements_of (contents_at l.memory l.container)) l.cuts
