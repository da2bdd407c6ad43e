use Rattle.std.proofs.Common.{◌≡◌, drop, nat_eq}
use Rattle.std.specs.List.{list_any}
use Rattle.sd_wire.proofs.loops.mark.sets.Given as goal

-- one of those left is to the variable where one of all is
abbrev pub invariant-loop-assigned : goal.invariant-loop-assigned
invariant-loop-assigned l = list_any (λ assignment. nat_eq assignment.0 l.variable) (drop l.assigned-index l.assignments) ≡ list_any (λ assignment. nat_eq assignment.0 l.variable) l.assignments
