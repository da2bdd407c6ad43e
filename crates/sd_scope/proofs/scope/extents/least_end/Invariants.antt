use Rattle.std.proofs.Common.{◌≡◌, map, drop}
use Rattle.std.specs.List.{fold}
use Rattle.std.specs.Int.{int_min}
use Rattle.sd_range.specs.Affine.{affine_value}
use Rattle.sd_range.specs.Range.{least_value}
use Rattle.sd_scope.proofs.scope.extents.least_end.Given as goal

abbrev pub invariant-loop-end : goal.invariant-loop-end
invariant-loop-end l = fold int_min l.least (map (affine_value l.values) (drop l.end-index l.others)) ≡ least_value l.values l.ends
