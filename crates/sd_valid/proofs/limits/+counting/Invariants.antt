use Rattle.std.proofs.Common.{◌≡◌, ◌≤◌, ◌^◌, drop}
use Rattle.sd_graph.specs.TreeFold.{item_trees, state_trees}
use Rattle.sd_valid.specs.Limits.{items_containers, states_containers, tally}
use Rattle.sd_valid.proofs.limits.+counting.Given as goal

-- the total so far goes on to that of all items
abbrev pub invariant-count_items-loop-item : goal.invariant-count_items-loop-item
invariant-count_items-loop-item l = record {
  all : tally l.total (items_containers (item_trees (drop l.item-index l.items))) ≡ tally l.before (items_containers (item_trees l.items));
  within : l.total ≤ 2 ^ 26;
}

-- the total so far goes on to that of all states
abbrev pub invariant-count_states-loop-state : goal.invariant-count_states-loop-state
invariant-count_states-loop-state l = record {
  all : tally l.total (states_containers (state_trees (drop l.state-index l.states))) ≡ tally l.before (states_containers (state_trees l.states));
  within : l.total ≤ 2 ^ 26;
}
