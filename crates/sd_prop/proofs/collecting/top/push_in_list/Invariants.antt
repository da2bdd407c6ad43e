use Rattle.std.proofs.Common.{◌≡◌, ◌++◌, drop, map}
use Rattle.sd_graph.specs.TreeFold.{item_trees, named_container}
use Rattle.sd_prop.specs.propagation.Scopes.{scopes_in_list}
use Rattle.sd_prop.proofs.collecting.top.push_in_list.Given as goal

-- those so far, with those of the items that are left
abbrev pub invariant-loop-item : goal.invariant-loop-item
invariant-loop-item l = l.found.items ++ scopes_in_list (item_trees (drop l.item-index l.items)) (map named_container l.containers.entries) l.path l.left
    ≡ l.initial.found.items ++ scopes_in_list (item_trees l.items) (map named_container l.containers.entries) l.path l.nodes
