use Rattle.std.proofs.Common.{◌≡◌, map, length}
use Rattle.sd_work.specs.Exit.{all_seen}
use Rattle.sd_graph.specs.TreeFold.{graph_tree}
use Rattle.sd_graph.specs.Context.{link_elements, reference_at}
use Rattle.sd_scope.specs.scope.Standing.{context_of}
use Rattle.sd_leaves.proofs.leaves_lemmas.ReadValues.{with_values}
use Rattle.sd_leaves.proofs.leaves.reading.values_of_link.Given as goal

-- the values so far stand before those of the indices that are left
abbrev pub invariant-indices : goal.invariant-indices
invariant-indices l =
    let context = context_of (graph_tree l.graph) l.base l.scope in
    all_seen (link_elements context l.link) l.machine.memories
    ≡ with_values l.values.items (all_seen (map (reference_at (context.reach l.link.memlet.container)) l.indices.left) l.machine.memories)

abbrev pub decreases-indices : goal.decreases-indices
decreases-indices l = length l.indices.left
