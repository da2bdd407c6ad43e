use Rattle.std.proofs.Common.{◌≡◌, ◌++◌, take, map, string_bytes}
use Rattle.std.specs.List.{flat_map}
use Rattle.sd_print.specs.graphs.StateText.{assignment_text}
use Rattle.sd_print.proofs.graphs.state.push_assignments.Given as goal

-- what is added so far
abbrev pub invariant-loop-variable : goal.invariant-loop-variable
invariant-loop-variable l = string_bytes l.text ≡ string_bytes l.initial.text ++ flat_map (assignment_text (map string_bytes l.names) l.order) (take l.variable-index l.assignments)
