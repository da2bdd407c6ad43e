use Rattle.std.proofs.Common.{◌≤◌, length}
use Rattle.std.specs.List.{AllByRecursion}
use Rattle.sd_mem.specs.mem.Shaped.{MayAllHave}
use Rattle.sd_mem.specs.mem.Holding.{IsSized}
use Rattle.sd_mem.proofs.mem_lemmas.Lending.{IsLeft}
use Rattle.sd_mem.proofs.mem.memory.Memory.take_back.Given as goal

-- where the containers may have the extents, these stay, and what is left to take stands before what was taken
abbrev pub invariant-loop-given : goal.invariant-loop-given
invariant-loop-given l = record {
  room : length l.holdings.items ≤ length l.self-inside.holdings.items;
  sized : AllByRecursion IsSized l.self-inside.holdings.items;
  taken : MayAllHave l.fn.self.shapes l.fn.lent.contents → IsLeft l.fn.self.shapes l.holdings.items l.self-inside.holdings.items l.fn.lent.contents;
}

abbrev pub decreases-loop-given : goal.decreases-loop-given
decreases-loop-given l = length l.holdings.items
