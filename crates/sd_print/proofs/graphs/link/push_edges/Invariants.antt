use Rattle.std.proofs.Common.{◌≡◌, ◌++◌, take, map, string_bytes}
use Rattle.std.specs.List.{flat_map}
use Rattle.sd_graph.specs.TreeFold.{named_container}
use Rattle.sd_print.specs.graphs.LinkText.{edge_text}
use Rattle.sd_print.proofs.graphs.link.push_edges.Given as goal

-- what is added so far
abbrev pub invariant-loop-edge : goal.invariant-loop-edge
invariant-loop-edge l = string_bytes l.text ≡ string_bytes l.initial.text ++ flat_map (edge_text (map string_bytes l.names) (map named_container l.containers.entries) l.order) (take l.edge-index l.edges)
