use Rattle.std.proofs.Common.{◌≡◌, map, take}
use Rattle.sd_graph.specs.PlainTree.{GraphTree}
use Rattle.sd_graph.specs.Context.{link_extents}
use Rattle.sd_scope.specs.scope.Standing.{context_of}
use Rattle.sd_scope.specs.declared.scope.base.Base.{Base}
use Rattle.sd_row.proofs.view.views_at.extents_at.Given as goal

-- the extents so far
abbrev pub invariant-loop-link : goal.invariant-loop-link
invariant-loop-link l = (program : GraphTree) (base : Base) → map (link_extents (context_of program base l.scope)) (take l.link-index l.links) ≡ map (λ extents. extents.items) l.all.items
