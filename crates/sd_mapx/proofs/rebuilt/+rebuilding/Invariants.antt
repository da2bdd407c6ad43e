use Rattle.std.proofs.Common.{◌≡◌, drop}
use Rattle.sd_graph.specs.TreeFold.{item_trees, state_trees}
use Rattle.sd_alike.specs.alike.Places.{items_then}
use Rattle.sd_mapx.specs.Rebuilt.{items_from, states_from, states_then}
use Rattle.sd_mapx.proofs.rebuilt.+rebuilding.Given as goal

-- the items so far, with those that are left as they come to stand
abbrev pub invariant-items_with-loop-item : goal.invariant-items_with-loop-item
invariant-items_with-loop-item g l =
    items_then (item_trees l.new.items) (items_from (g.R.Replace.replacing l.replace) (g.R.Replace.further l.replace) l.variables l.number l.rest l.at (item_trees (drop l.item-index l.items)))
    ≡ items_from (g.R.Replace.replacing l.replace) (g.R.Replace.further l.replace) l.variables l.number l.rest 0 (item_trees l.items)

-- so it is with the states
abbrev pub invariant-states_with-loop-state : goal.invariant-states_with-loop-state
invariant-states_with-loop-state g l =
    states_then (state_trees l.new.items) (states_from (g.R.Replace.replacing l.replace) (g.R.Replace.further l.replace) l.variables l.place l.at (state_trees (drop l.state-index l.states)))
    ≡ states_from (g.R.Replace.replacing l.replace) (g.R.Replace.further l.replace) l.variables l.place 0 (state_trees l.states)
