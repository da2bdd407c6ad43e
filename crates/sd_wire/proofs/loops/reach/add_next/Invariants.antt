use Rattle.std.proofs.Common.{◌≡◌, drop, map}
use Rattle.sd_graph.specs.TreeFold.{exit_tree}
use Rattle.sd_wire.specs.loops.Spread.{with_next}
use Rattle.sd_wire.proofs.loops.reach.add_next.Given as goal

-- what becomes of the table so far by the transitions left
abbrev pub invariant-loop-exit : goal.invariant-loop-exit
invariant-loop-exit l = with_next l.avoided (map exit_tree (drop l.exit-index l.exits)) l.table.items ≡ with_next l.avoided (map exit_tree l.exits) l.initial.table.items
