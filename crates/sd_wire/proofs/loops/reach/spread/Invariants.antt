use Rattle.std.proofs.Common.{◌≡◌, drop}
use Rattle.sd_graph.specs.TreeFold.{state_trees}
use Rattle.sd_wire.specs.loops.Spread.{spread}
use Rattle.sd_wire.proofs.loops.reach.spread.Given as goal

-- what becomes of the table so far by the states left
abbrev pub invariant-loop-from : goal.invariant-loop-from
invariant-loop-from l = spread l.avoided l.from (state_trees (drop l.from l.states)) l.table.items ≡ spread l.avoided 0 (state_trees l.states) l.initial.table.items
