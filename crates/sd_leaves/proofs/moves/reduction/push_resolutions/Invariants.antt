use Rattle.std.proofs.Common.{◌≡◌, ◌++◌, map, length}
use Rattle.sd_range.specs.Subset.{whole}
use Rattle.sd_graph.specs.TreeFold.{graph_tree}
use Rattle.sd_graph.specs.Context.{link_extents}
use Rattle.sd_scope.specs.scope.Standing.{context_of}
use Rattle.sd_leaves.specs.leaves.Done.{resolving}
use Rattle.sd_leaves.specs.moves.Left.{all_told}
use Rattle.sd_leaves.proofs.moves.reduction.push_resolutions.Given as goal

-- all that is resolved is what was pushed so far and what is left
abbrev pub invariant-places : goal.invariant-places
invariant-places l =
    let context = context_of (graph_tree l.graph) l.base l.scope in
    let thing = resolving context l.resolution l.axis l.from l.to in
    all_told l.fn.todos.items ++ map thing (whole (link_extents context l.from)) ≡ all_told l.todos.items ++ map thing l.places.left

abbrev pub decreases-places : goal.decreases-places
decreases-places l = length l.places.left
