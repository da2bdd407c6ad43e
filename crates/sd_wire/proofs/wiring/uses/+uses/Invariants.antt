use Rattle.std.proofs.Common.{◌≡◌, ◌++◌, drop, map}
use Rattle.sd_graph.specs.TreeFold.{item_trees, state_trees, named_container}
use Rattle.sd_graph.specs.Wiring.{item_uses, state_uses}
use Rattle.sd_wire.proofs.wiring.uses.+uses.Given as goal

-- what the items do so far, with what is left
abbrev pub invariant-push_items-loop-item : goal.invariant-push_items-loop-item
invariant-push_items-loop-item l = l.uses.items ++ item_uses (item_trees (drop l.item-index l.items)) (map named_container l.containers.entries)
    ≡ l.initial.uses.items ++ item_uses (item_trees l.items) (map named_container l.containers.entries)

-- what the states do so far, with what is left
abbrev pub invariant-push_states-loop-state : goal.invariant-push_states-loop-state
invariant-push_states-loop-state l = l.uses.items ++ state_uses (state_trees (drop l.state-index l.states)) (map named_container l.containers.entries)
    ≡ l.initial.uses.items ++ state_uses (state_trees l.states) (map named_container l.containers.entries)
