use Rattle.std.proofs.Common.{◌≡◌, ◌++◌, drop}
use Rattle.sd_graph.specs.Context.{index_at}
use Rattle.sd_scope.proofs.scope.element.index_at.Given as goal

abbrev pub invariant-loop-dim : goal.invariant-loop-dim
invariant-loop-dim l = l.index.items ++ index_at (drop l.dim-index l.dims) l.values l.left ≡ index_at l.dims l.values l.at
