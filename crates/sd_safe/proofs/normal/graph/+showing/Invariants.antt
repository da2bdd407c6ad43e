use Rattle.std.proofs.Common.{drop}
use Rattle.sd_graph.specs.TreeFold.{item_trees, state_trees}
use Rattle.sd_safe.specs.normal.NormalForm.{AreItemsNormal, AreStatesNormal}
use Rattle.sd_safe.proofs.normal.graph.+showing.Given as goal

-- all items are where those left are
abbrev pub invariant-show_items-loop-item : goal.invariant-show_items-loop-item
invariant-show_items-loop-item l = AreItemsNormal (item_trees (drop l.item-index l.items)) → AreItemsNormal (item_trees l.items)

-- and all states
abbrev pub invariant-show_states-loop-state : goal.invariant-show_states-loop-state
invariant-show_states-loop-state l = AreStatesNormal (state_trees (drop l.state-index l.states)) → AreStatesNormal (state_trees l.states)
