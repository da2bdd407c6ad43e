use Rattle.std.proofs.Common.{◌≡◌, ◌++◌, drop}
use Rattle.sd_graph.specs.TreeFold.{item_trees, state_trees}
use Rattle.sd_validity.specs.rules.NestedLinks as nested
use Rattle.sd_links.proofs.written.+writing.Given as goal

-- those so far, with those of the items that are left, are all
abbrev pub invariant-push_items-loop-item : goal.invariant-push_items-loop-item
invariant-push_items-loop-item l =
    l.all.items ++ nested.written_in (item_trees (drop l.item-index l.items)) ≡ l.initial.all.items ++ nested.written_in (item_trees l.items)

-- and of the states that are left
abbrev pub invariant-push_states-loop-state : goal.invariant-push_states-loop-state
invariant-push_states-loop-state l =
    l.all.items ++ nested.written_in_states (state_trees (drop l.state-index l.states)) ≡ l.initial.all.items ++ nested.written_in_states (state_trees l.states)
