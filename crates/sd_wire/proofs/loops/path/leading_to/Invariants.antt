use Rattle.sd_graph.specs.TreeFold.{state_trees}
use Rattle.sd_wire.proofs.loops_lemmas.Tables.{IsTable}
use Rattle.sd_wire.proofs.loops.path.leading_to.Given as goal

-- the table so far is that of so many transitions
abbrev pub invariant-loop-round : goal.invariant-loop-round
invariant-loop-round l = IsTable (state_trees l.states) l.avoided l.round l.to l.table.items
