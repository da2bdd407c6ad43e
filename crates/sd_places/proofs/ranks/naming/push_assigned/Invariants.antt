use Rattle.std.proofs.Common.{◌≡◌, ◌++◌, take, map}
use Rattle.sd_places.proofs.ranks.naming.push_assigned.Given as goal

-- the variables so far
abbrev pub invariant-loop-variable : goal.invariant-loop-variable
invariant-loop-variable l = l.assigned.items ≡ l.initial.assigned.items ++ map (λ assignment. assignment.0) (take l.variable-index l.set)
