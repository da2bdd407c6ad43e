use Rattle.std.proofs.Common.{◌≡◌, ◌++◌, map, option_map, length}
use Rattle.sd_graph.specs.TreeFold.{graph_tree}
use Rattle.sd_graph.specs.Context.{link_elements, reference_at}
use Rattle.sd_mem.specs.machine.Stack.{reference_of}
use Rattle.sd_scope.specs.scope.Standing.{context_of}
use Rattle.sd_scope.proofs.scope.access.link_cells.Given as goal

-- the elements so far stand before those that are left
abbrev pub invariant-indices : goal.invariant-indices
invariant-indices l =
    map (option_map reference_of) l.cells.items
    ++ map (reference_at ((context_of (graph_tree l.graph) l.base l.scope).reach l.link.memlet.container)) l.indices.left
    ≡ link_elements (context_of (graph_tree l.graph) l.base l.scope) l.link

abbrev pub decreases-indices : goal.decreases-indices
decreases-indices l = length l.indices.left
