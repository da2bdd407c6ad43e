use Rattle.std.proofs.Common.{◌≡◌, ◌++◌, [], drop}
use Rattle.std.specs.List.{All}
use Rattle.sd_range.specs.Subset.{IsDim}
use Rattle.sd_subset.specs.elements.Way.{IsEvaluableDim}
use Rattle.sd_cut.specs.Cells.{spans_within}
use Rattle.sd_cut.proofs.cells.spans_of.Given as goal

-- the dimensions so far, and those left
abbrev pub invariant-loop-i : goal.invariant-loop-i
invariant-loop-i l = record {
  spans : l.dims.items ++ spans_within (drop l.i l.shift) (drop l.i l.extents) ≡ spans_within l.shift l.extents;
  are_dims : All IsDim l.dims.items;
  evaluable : All (IsEvaluableDim []) l.dims.items;
}
