use Rattle.std.proofs.Common.{take}
use Rattle.std.specs.List.{All}
use Rattle.sd_range.specs.Subset.{IsDim}
use Rattle.sd_subset.specs.elements.Way.{IsEvaluableDim}
use Rattle.sd_scope.proofs.scope.evaluation.check_dims.Given as goal

abbrev pub invariant-loop-dim : goal.invariant-loop-dim
invariant-loop-dim l = record {
  dims : All IsDim (take l.dim-index l.dims);
  evaluable : All (IsEvaluableDim l.values) (take l.dim-index l.dims);
}
