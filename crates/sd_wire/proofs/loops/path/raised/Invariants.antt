use Rattle.std.proofs.Common.{◌≡◌, ◌++◌, drop}
use Rattle.sd_graph.specs.TreeFold.{state_trees}
use Rattle.sd_wire.specs.loops.Table.{raised}
use Rattle.sd_wire.proofs.loops.path.raised.Given as goal

-- the entries so far, and those of the states left
abbrev pub invariant-loop-from : goal.invariant-loop-from
invariant-loop-from l = l.next.items ++ raised l.table l.avoided l.to l.from (state_trees (drop l.from l.states)) ≡ raised l.table l.avoided l.to 0 (state_trees l.states)
