use Rattle.std.proofs.Common.{◌≡◌, ◌++◌, take, map}
use Rattle.sd_validity.specs.rules.Ranks.{begin_naming}
use Rattle.sd_places.proofs.ranks.naming.push_assignments.Given as goal

-- those of the assignments so far
abbrev pub invariant-loop-variable : goal.invariant-loop-variable
invariant-loop-variable l = l.all.items ≡ l.initial.all.items ++ map begin_naming (take l.variable-index l.set)
