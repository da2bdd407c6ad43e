use Rattle.std.proofs.Common.{◌++◌, map, ap, ◌∙◌}
use Rattle.sd_range.specs.Subset.{whole}
use Rattle.sd_work.specs.Leaf.{doing}
use Rattle.sd_graph.specs.TreeFold.{graph_tree}
use Rattle.sd_graph.specs.Context.{link_extents}
use Rattle.sd_scope.specs.scope.Standing.{context_of}
use Rattle.sd_leaves.specs.leaves.Done.{resolving}
use Rattle.sd_leaves.proofs.leaves_lemmas.CellLists.{reduction_is}
use Rattle.sd_leaves.proofs.moves.doing.Doing.reduction.Goals as goal

pub returns : goal.returns
returns c =
    let context = context_of (graph_tree c.args.graph.now) c.args.base.now c.args.scope.now in
    let thing = resolving context c.args.resolution c.args.axis c.args.from.now c.args.to.now in
    ap doing (c.in_ok-push_resolutions.ensures ∙ ap (λ first. first ++ map thing (whole (link_extents context c.args.from.now))) c.in_ok-todo.ensures
    ∙ reduction_is context c.args.resolution c.args.axis c.args.identity c.args.from.now c.args.to.now)
