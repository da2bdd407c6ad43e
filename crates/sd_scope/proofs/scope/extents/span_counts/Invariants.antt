use Rattle.std.proofs.Common.{◌≡◌, ◌++◌, drop}
use Rattle.sd_graph.specs.Context.{span_counts}
use Rattle.sd_scope.proofs.scope.extents.span_counts.Given as goal

abbrev pub invariant-loop-dim : goal.invariant-loop-dim
invariant-loop-dim l = l.counts.items ++ span_counts (drop l.dim-index l.dims) l.values ≡ span_counts l.dims l.values
