use Rattle.std.proofs.Common.{take}
use Rattle.sd_rows.specs.tasks.Runners.{AreRunnersOf}
use Rattle.sd_rows.proofs.tasks.runners.runners_of.Given as goal

-- the flat code so far
abbrev pub invariant-loop-item : goal.invariant-loop-item
invariant-loop-item l = AreRunnersOf (take l.item-index l.items) l.runners.items
