use Rattle.std.proofs.Common.{◌≡◌, drop}
use Rattle.std.specs.List.{list_any}
use Rattle.sd_graph.specs.Wiring.{uses_conflict}
use Rattle.sd_wire.proofs.wiring.mentioned.conflicts.Given as goal

-- it conflicts with one of all where it does with one of those that are left
abbrev pub invariant-loop-other : goal.invariant-loop-other
invariant-loop-other l = list_any (uses_conflict l.use_) (drop l.other-index l.others) ≡ list_any (uses_conflict l.use_) l.others
