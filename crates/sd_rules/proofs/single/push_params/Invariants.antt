use Rattle.std.proofs.Common.{◌≡◌, ◌++◌, take}
use Rattle.sd_validity.specs.rules.Places.{param_numbers}
use Rattle.sd_rules.proofs.single.push_params.Given as goal

-- those so far
abbrev pub invariant-loop-variable : goal.invariant-loop-variable
invariant-loop-variable l = l.all.items ≡ l.initial.all.items ++ param_numbers (take l.variable-index l.params)
