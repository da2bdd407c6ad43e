use Rattle.std.proofs.Common.{◌≡◌, length}
use Rattle.sd_graph.specs.TreeFold.{graph_tree}
use Rattle.sd_scope.specs.scope.Standing.{context_of}
use Rattle.sd_row.specs.view.Places.{AreStrides}
use Rattle.sd_row.proofs.view.finding.strides_at.Given as goal

-- the strides so far
abbrev pub invariant-loop-dim : goal.invariant-loop-dim
invariant-loop-dim l = record {
  many : length l.strides.items ≡ l.dim;
  are : AreStrides (context_of (graph_tree l.graph) l.base l.scope) l.link l.extents l.strides.items l.first;
}
