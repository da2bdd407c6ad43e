use Rattle.std.proofs.Common.{◌≡◌, ◌++◌, map, drop, option_map}
use Rattle.std.specs.List.{flat_map}
use Rattle.sd_graph.specs.TreeFold.{graph_tree}
use Rattle.sd_graph.specs.Context.{link_elements}
use Rattle.sd_mem.specs.machine.Stack.{reference_of}
use Rattle.sd_scope.specs.scope.Standing.{context_of}
use Rattle.sd_leaves.proofs.moves.begin.cells_of_links.Given as goal

-- the elements of all links are those so far and those of the others
abbrev pub invariant-loop-link : goal.invariant-loop-link
invariant-loop-link l =
    let elements = link_elements (context_of (graph_tree l.graph) l.base l.scope) in
    flat_map elements l.links ≡ map (option_map reference_of) l.cells.items ++ flat_map elements (drop l.link-index l.links)
