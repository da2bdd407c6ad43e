use Rattle.std.proofs.Common.{◌≡◌, ◌++◌, drop}
use Rattle.sd_graph.specs.TreeFold.{state_trees}
use Rattle.sd_mapx.specs.FreshNames.{variables_used}
use Rattle.sd_mapx.proofs.fresh.variables_used.Given as goal

-- those so far, with those of the states that are left
abbrev pub invariant-loop-state : goal.invariant-loop-state
invariant-loop-state l = l.variables.items ++ variables_used (state_trees (drop l.state-index l.states)) ≡ variables_used (state_trees l.states)
