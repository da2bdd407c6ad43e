use Rattle.std.proofs.Common.{◌++◌, map, ap, sym, ◌∙◌}
use Rattle.sd_range.specs.Subset.{whole}
use Rattle.sd_graph.specs.TreeFold.{graph_tree}
use Rattle.sd_scope.specs.scope.Standing.{context_of}
use Rattle.sd_leaves.specs.leaves.Done.{resolving}
use Rattle.sd_leaves.specs.moves.Left.{all_told}
use Rattle.sd_leaves.proofs.moves.reduction.push_resolutions.Goals as goal

pub places-init : goal.places-init
places-init c =
    let tree = graph_tree c.args.graph.now in
    let context = context_of tree c.args.base.now c.args.scope.now in
    let thing = resolving context c.args.resolution c.args.axis c.args.from.now c.args.to.now in
    ap (λ left. all_told c.args.todos.now.items ++ map thing left) (sym (c.in_ok-places.ensures ∙ ap whole (c.as_slice.ensures.value ∙ c.in_ok-extents.ensures tree c.args.base.now)))
