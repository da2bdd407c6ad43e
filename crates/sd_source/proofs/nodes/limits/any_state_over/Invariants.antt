use Rattle.std.proofs.Common.{◌≡◌, drop}
use Rattle.sd_source.specs.nodes.NodeLimits as limits
use Rattle.sd_source.proofs.nodes.limits.any_state_over.Given as goal

-- the least line so far with that of the states that are left
abbrev pub invariant-loop-nodes : goal.invariant-loop-nodes
invariant-loop-nodes l = limits.lesser l.least (limits.any_state_over l.limit (drop l.nodes-index l.states)) ≡ limits.any_state_over l.limit l.states
