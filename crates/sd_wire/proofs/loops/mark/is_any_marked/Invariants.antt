use Rattle.std.proofs.Common.{◌≡◌, drop}
use Rattle.sd_graph.specs.TreeFold.{state_trees}
use Rattle.sd_wire.specs.loops.Marks.{is_any_marked}
use Rattle.sd_wire.proofs.loops.mark.is_any_marked.Given as goal

-- a transition of those left is marked where one of all is
abbrev pub invariant-loop-state : goal.invariant-loop-state
invariant-loop-state l = is_any_marked (state_trees (drop l.state-index l.states)) ≡ is_any_marked (state_trees l.states)
