use Rattle.std.proofs.Common.{◌<◌, length, take}
use Rattle.std.specs.List.{All}
use Rattle.sd_scope.proofs.scope.evaluation.check_evaluable.Given as goal

abbrev pub invariant-loop-variable : goal.invariant-loop-variable
invariant-loop-variable l = All (λ term. term.0 < length l.values) (take l.variable-index l.affine.terms)
