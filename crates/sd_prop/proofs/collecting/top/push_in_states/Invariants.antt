use Rattle.std.proofs.Common.{◌≡◌, ◌++◌, drop, map}
use Rattle.sd_graph.specs.TreeFold.{state_trees, named_container}
use Rattle.sd_prop.specs.propagation.Scopes.{scopes_in_states}
use Rattle.sd_prop.proofs.collecting.top.push_in_states.Given as goal

-- those so far, with those of the states that are left
abbrev pub invariant-loop-state : goal.invariant-loop-state
invariant-loop-state l = l.found.items ++ scopes_in_states (state_trees (drop l.state-index l.states)) (map named_container l.containers.entries) l.number
    ≡ l.initial.found.items ++ scopes_in_states (state_trees l.states) (map named_container l.containers.entries) 0
