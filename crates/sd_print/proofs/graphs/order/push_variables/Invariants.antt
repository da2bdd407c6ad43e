use Rattle.std.proofs.Common.{◌≡◌, ◌++◌, take, map}
use Rattle.sd_print.proofs.graphs.order.push_variables.Given as goal

-- those so far
abbrev pub invariant-loop-variable : goal.invariant-loop-variable
invariant-loop-variable l = l.found.items ≡ l.initial.found.items ++ map (λ param. param.0) (take l.variable-index l.params)
