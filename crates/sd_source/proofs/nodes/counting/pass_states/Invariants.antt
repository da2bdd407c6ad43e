use Rattle.std.proofs.Common.{◌≡◌, ◌-◌, drop}
use Rattle.sd_source.specs.nodes.NodeLimits as limits
use Rattle.sd_source.proofs.nodes.counting.pass_states.Given as goal

-- what is left, with the states that are left
abbrev pub invariant-loop-nodes : goal.invariant-loop-nodes
invariant-loop-nodes l = record {
  line : limits.states_over l.counts l.left (drop l.nodes-index l.states) ≡ limits.states_over l.counts l.initial.left l.states;
  left : l.left - limits.count_in_all l.counts (drop l.nodes-index l.states) ≡ l.initial.left - limits.count_in_all l.counts l.states;
}
