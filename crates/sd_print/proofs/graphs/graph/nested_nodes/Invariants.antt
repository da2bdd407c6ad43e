use Rattle.std.proofs.Common.{◌≡◌, ◌++◌, drop}
use Rattle.sd_print.specs.graphs.GraphText.{nested_nodes}
use Rattle.sd_print.proofs.graphs.graph.nested_nodes.Given as goal

-- those so far, with those that are left
abbrev pub invariant-loop-node : goal.invariant-loop-node
invariant-loop-node l = l.found.items ++ nested_nodes l.number (drop l.node-index l.nodes) ≡ nested_nodes 0 l.nodes
