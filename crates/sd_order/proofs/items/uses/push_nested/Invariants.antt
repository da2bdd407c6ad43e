use Rattle.std.proofs.Common.{◌≡◌, ◌++◌, drop}
use Rattle.sd_graph.specs.TreeFold.{graph_tree}
use Rattle.sd_graph.specs.Wiring.{graph_uses, nested_uses}
use Rattle.sd_order.proofs.items.uses.push_nested.Given as goal

-- those so far, with those that are left
abbrev pub invariant-loop-link : goal.invariant-loop-link
invariant-loop-link l = l.uses.items ++ nested_uses (graph_uses (graph_tree l.graph)) l.number (drop l.link-index l.links)
    ≡ l.initial.uses.items ++ nested_uses (graph_uses (graph_tree l.graph)) 0 l.links
