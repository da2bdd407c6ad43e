use Rattle.std.proofs.Common.{take}
use Rattle.std.specs.List.{All}
use Rattle.sd_range.specs.Range.{IsRange, IsEvaluableRange}
use Rattle.sd_scope.proofs.scope.evaluation.check_ranges.Given as goal

abbrev pub invariant-loop-range : goal.invariant-loop-range
invariant-loop-range l = record {
  ranges : All (λ param. IsRange param.1) (take l.range-index l.params);
  evaluable : All (λ param. IsEvaluableRange l.values param.1) (take l.range-index l.params);
}
