use Rattle.std.proofs.Common.{◌≡◌, ℕ, ◌++◌, map, drop}
use Rattle.sd_range.specs.Points.{product}
use Rattle.sd_graph.specs.PlainTree.{GraphTree}
use Rattle.sd_graph.specs.Context.{link_extents}
use Rattle.sd_graph.specs.Unfold.{cut}
use Rattle.sd_graph.specs.declared.link.Link.{Link}
use Rattle.sd_scope.specs.scope.Standing.{context_of}
use Rattle.sd_scope.specs.declared.scope.base.Base.{Base}
use Rattle.sd_leaves.proofs.moves.effects.cut_values.Given as goal

-- all cuts are those so far and those of the values that are left
abbrev pub invariant-loop-link : goal.invariant-loop-link
invariant-loop-link l = (tree : GraphTree) (base : Base) →
    let count : Link → ℕ = λ link. product (link_extents (context_of tree base l.scope) link) in
    cut (map count l.ins) l.values ≡ l.read.items ++ cut (map count (drop l.link-index l.ins)) l.rest
