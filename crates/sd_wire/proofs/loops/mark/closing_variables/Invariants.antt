use Rattle.std.proofs.Common.{◌≡◌, ◌++◌, drop}
use Rattle.sd_graph.specs.TreeFold.{state_trees}
use Rattle.sd_wire.specs.loops.Marks.{closing_variables}
use Rattle.sd_wire.proofs.loops.mark.closing_variables.Given as goal

-- those so far, with those of the states left
abbrev pub invariant-loop-state : goal.invariant-loop-state
invariant-loop-state l = l.found.items ++ closing_variables l.begin (state_trees (drop l.state-index l.states)) ≡ closing_variables l.begin (state_trees l.states)
