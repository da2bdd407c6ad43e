use Rattle.std.proofs.Common.{◌≡◌, map, string_bytes, take}
use Rattle.sd_graph.specs.Context.{named_values}
use Rattle.sd_scope.proofs.scope.place.loop_values.Given as goal

abbrev pub invariant-loop-variable : goal.invariant-loop-variable
invariant-loop-variable l = l.values.items ≡ named_values (map string_bytes l.names) l.begun (take l.variable-index l.loops)
