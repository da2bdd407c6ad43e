use Rattle.std.proofs.Common.{◌≡◌, ◌++◌, take}
use Rattle.sd_validity.specs.rules.Places.{param_numbers}
use Rattle.sd_mapx.proofs.fresh.push_numbers.Given as goal

-- those so far
abbrev pub invariant-loop-variable : goal.invariant-loop-variable
invariant-loop-variable l = l.variables.items ≡ l.initial.variables.items ++ param_numbers (take l.variable-index l.params)
