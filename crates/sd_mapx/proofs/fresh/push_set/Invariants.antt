use Rattle.std.proofs.Common.{◌≡◌, ◌++◌, take, map}
use Rattle.sd_mapx.proofs.fresh.push_set.Given as goal

-- those so far
abbrev pub invariant-loop-variable : goal.invariant-loop-variable
invariant-loop-variable l = l.variables.items ≡ l.initial.variables.items ++ map (λ assignment. assignment.0) (take l.variable-index l.set)
