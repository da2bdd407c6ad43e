use Rattle.std.proofs.Common.{◌≡◌, ◌++◌, drop}
use Rattle.sd_graph.specs.TreeFold.{state_trees}
use Rattle.sd_validity.specs.rules.NamesInForce as names
use Rattle.sd_rules.proofs.held.held_in_states.Given as goal

-- those so far, with those of the states that are left, are all
abbrev pub invariant-loop-state : goal.invariant-loop-state
invariant-loop-state l =
    l.held.items ++ names.held_in_states (state_trees (drop l.state-index l.states)) ≡ names.held_in_states (state_trees l.states)
