use Rattle.std.proofs.Common.{◌≡◌, map, drop}
use Rattle.sd_range.specs.Affine.{affine_value}
use Rattle.sd_range.specs.Variables.{with_variables}
use Rattle.sd_scope.proofs.scope.evaluation.values_behind.Given as goal

abbrev pub invariant-loop-variable : goal.invariant-loop-variable
invariant-loop-variable l =
    with_variables (map (λ assignment. (assignment.0, affine_value l.values assignment.1)) (drop l.variable-index l.exit.set)) l.behind.items
    ≡ with_variables (map (λ assignment. (assignment.0, affine_value l.values assignment.1)) l.exit.set) l.values
