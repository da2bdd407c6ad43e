use Rattle.std.proofs.Common.{take}
use Rattle.std.specs.List.{All}
use Rattle.sd_range.specs.Affine.{IsEvaluable}
use Rattle.sd_scope.proofs.scope.evaluation.check_ends.Given as goal

abbrev pub invariant-loop-end : goal.invariant-loop-end
invariant-loop-end l = All (IsEvaluable l.values) (take l.end-index l.ends)
