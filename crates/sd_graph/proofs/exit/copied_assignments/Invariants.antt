use Rattle.std.proofs.Common.{◌≡◌, take}
use Rattle.sd_graph.proofs.exit.copied_assignments.Given as goal

-- the variables so far
abbrev pub invariant-loop-variable : goal.invariant-loop-variable
invariant-loop-variable l = l.copy.items ≡ take l.variable-index l.assignments
