use Rattle.std.proofs.Common.{◌≡◌, drop}
use Rattle.sd_graph.specs.TreeFold.{item_trees, state_trees}
use Rattle.sd_left.specs.pool_free.Consuming.{items_consume, states_consume}
use Rattle.sd_left.proofs.pool_free.consumes.+consumes.Given as goal

abbrev pub invariant-states_consume-loop-state : goal.invariant-states_consume-loop-state
invariant-states_consume-loop-state l = states_consume (state_trees l.states) ≡ states_consume (state_trees (drop l.state-index l.states))

abbrev pub invariant-items_consume-loop-item : goal.invariant-items_consume-loop-item
invariant-items_consume-loop-item l = items_consume (item_trees l.items) ≡ items_consume (item_trees (drop l.item-index l.items))
