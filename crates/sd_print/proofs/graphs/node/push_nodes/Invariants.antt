use Rattle.std.proofs.Common.{◌≡◌, ◌++◌, drop, map, string_bytes}
use Rattle.sd_graph.specs.TreeFold.{named_container}
use Rattle.sd_print.specs.graphs.NodeText.{nodes_text}
use Rattle.sd_print.proofs.graphs.node.push_nodes.Given as goal

-- what is added so far, with what is left
abbrev pub invariant-loop-node : goal.invariant-loop-node
invariant-loop-node l = string_bytes l.text ++ nodes_text (map named_container l.containers.entries) l.number (drop l.node-index l.nodes) l.rest
    ≡ string_bytes l.initial.text ++ nodes_text (map named_container l.containers.entries) 0 l.nodes l.labels
