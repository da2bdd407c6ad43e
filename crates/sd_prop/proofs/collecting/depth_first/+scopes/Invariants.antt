use Rattle.std.proofs.Common.{◌≡◌, ◌++◌, drop, map}
use Rattle.sd_graph.specs.TreeFold.{item_trees, state_trees, named_container}
use Rattle.sd_prop.specs.propagation.Scopes.{item_scopes, state_scopes}
use Rattle.sd_prop.proofs.collecting.depth_first.+scopes.Given as goal

-- those of the items so far, with those of the items that are left
abbrev pub invariant-push_scopes-loop-item : goal.invariant-push_scopes-loop-item
invariant-push_scopes-loop-item l = l.found.items ++ item_scopes (item_trees (drop l.item-index l.items)) (map named_container l.containers.entries) l.path l.around l.left
    ≡ l.initial.found.items ++ item_scopes (item_trees l.items) (map named_container l.containers.entries) l.path l.around l.nodes

-- those of the states so far, with those of the states that are left
abbrev pub invariant-push_states-loop-state : goal.invariant-push_states-loop-state
invariant-push_states-loop-state l = l.found.items ++ state_scopes (state_trees (drop l.state-index l.states)) (map named_container l.containers.entries) l.path l.number
    ≡ l.initial.found.items ++ state_scopes (state_trees l.states) (map named_container l.containers.entries) l.path 0
