use Rattle.std.proofs.Common.{map, length}
use Rattle.sd_range.specs.Subset.{whole}
use Rattle.sd_graph.specs.TreeFold.{graph_tree}
use Rattle.sd_graph.specs.Context.{link_extents}
use Rattle.sd_scope.specs.scope.Standing.{context_of}
use Rattle.sd_leaves.specs.leaves.Done.{resolving}
use Rattle.sd_leaves.proofs.leaves_lemmas.Doing.{IsLeft}
use Rattle.sd_leaves.proofs.leaves.reduction.resolve_all.Given as goal

-- what is left comes to what all comes to
abbrev pub invariant-places : goal.invariant-places
invariant-places l =
    let context = context_of (graph_tree l.graph) l.base l.scope in
    let thing = resolving context l.resolution l.axis l.from l.to in
    IsLeft (map thing (whole (link_extents context l.from))) l.fn.machine (map thing l.places.left) l.machine

abbrev pub decreases-places : goal.decreases-places
decreases-places l = length l.places.left
