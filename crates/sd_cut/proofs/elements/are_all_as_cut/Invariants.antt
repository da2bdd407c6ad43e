use Rattle.std.proofs.Common.{◌↔◌, drop}
use Rattle.sd_cut.specs.Elements.{AreAllAsCut}
use Rattle.sd_cut.proofs.elements.are_all_as_cut.Given as goal

-- all are as they were where those left are
abbrev pub invariant-loop-container : goal.invariant-loop-container
invariant-loop-container l = AreAllAsCut l.memory l.container (drop l.container l.arrays) ↔ AreAllAsCut l.memory 0 l.arrays
