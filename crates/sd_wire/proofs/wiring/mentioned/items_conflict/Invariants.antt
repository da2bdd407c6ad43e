use Rattle.std.proofs.Common.{◌≡◌, drop}
use Rattle.sd_graph.specs.Wiring.{items_conflict}
use Rattle.sd_wire.proofs.wiring.mentioned.items_conflict.Given as goal

-- they conflict where one of those that are left does
abbrev pub invariant-loop-use_ : goal.invariant-loop-use_
invariant-loop-use_ l = items_conflict (drop l.use_-index l.first) l.second ≡ items_conflict l.first l.second
