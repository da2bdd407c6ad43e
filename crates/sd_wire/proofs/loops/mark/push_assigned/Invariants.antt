use Rattle.std.proofs.Common.{◌≡◌, ◌++◌, take, map}
use Rattle.sd_wire.proofs.loops.mark.push_assigned.Given as goal

-- those so far
abbrev pub invariant-loop-variable : goal.invariant-loop-variable
invariant-loop-variable l = l.found.items ≡ l.initial.found.items ++ map (λ assignment. assignment.0) (take l.variable-index l.assignments)
