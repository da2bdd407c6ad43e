use Rattle.std.proofs.Common.{◌≡◌, ◌++◌, map, take, drop}
use Rattle.sd_range.specs.Variables.{with_variables}
use Rattle.sd_graph.specs.Unfold.{assigned}
use Rattle.sd_scope.specs.scope.Standing.{parameter_shown}
use Rattle.sd_scope.proofs.scope.scope.assign.Given as goal

abbrev pub invariant-loop-i : goal.invariant-loop-i
invariant-loop-i l = record {
  values : with_variables (drop l.i (assigned l.params l.point)) l.values.items ≡ with_variables (assigned l.params l.point) l.initial.values.items;
  shown : l.shown.items ≡ l.initial.shown.items ++ map parameter_shown (take l.i (assigned l.params l.point));
}
