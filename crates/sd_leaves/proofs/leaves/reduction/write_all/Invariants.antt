use Rattle.std.proofs.Common.{Some, None, map, length}
use Rattle.sd_work.specs.Leaf.{identities, write_value}
use Rattle.sd_graph.specs.TreeFold.{graph_tree}
use Rattle.sd_graph.specs.Context.{link_elements, reference_at}
use Rattle.sd_scope.specs.scope.Standing.{context_of}
use Rattle.sd_leaves.proofs.leaves_lemmas.Doing.{IsLeft}
use Rattle.sd_leaves.proofs.leaves.reduction.write_all.Given as goal

-- what is left comes to what all comes to
abbrev pub invariant-indices : goal.invariant-indices
invariant-indices l =
    let context = context_of (graph_tree l.graph) l.base l.scope in
    IsLeft (identities (Some l.value) (link_elements context l.to)) l.fn.machine
    (map (λ index. write_value l.value (reference_at (context.reach l.to.memlet.container) index) None) l.indices.left) l.machine

abbrev pub decreases-indices : goal.decreases-indices
decreases-indices l = length l.indices.left
