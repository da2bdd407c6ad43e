use Rattle.std.proofs.Common.{◌≡◌, ◌++◌, take, map}
use Rattle.sd_rules.proofs.transitions.push_begins_of.Given as goal

-- those so far
abbrev pub invariant-loop-variable : goal.invariant-loop-variable
invariant-loop-variable l = l.begins.items ≡ l.initial.begins.items ++ map (λ assignment. (assignment.0, l.exit.to)) (take l.variable-index l.variable-items)
