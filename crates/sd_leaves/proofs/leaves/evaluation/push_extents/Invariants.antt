use Rattle.std.proofs.Common.{◌≡◌, ◌++◌, map, take}
use Rattle.sd_graph.specs.PlainTree.{GraphTree}
use Rattle.sd_graph.specs.Context.{link_extents}
use Rattle.sd_tasklet.specs.tasklet.Given.{told_extent}
use Rattle.sd_scope.specs.scope.Standing.{context_of}
use Rattle.sd_scope.specs.declared.scope.base.Base.{Base}
use Rattle.sd_leaves.proofs.leaves.evaluation.push_extents.Given as goal

-- the extents so far
abbrev pub invariant-loop-link : goal.invariant-loop-link
invariant-loop-link l = (tree : GraphTree) (base : Base) →
    l.extents.items ≡ l.fn.extents.items ++ map (λ link. map told_extent (link_extents (context_of tree base l.scope) link)) (take l.link-index l.links)
