use Rattle.std.proofs.Common.{◌≡◌, ◌++◌, take}
use Rattle.sd_validity.specs.rules.Ranks.{param_namings}
use Rattle.sd_places.proofs.ranks.naming.push_params.Given as goal

-- those of the parameters so far
abbrev pub invariant-loop-variable : goal.invariant-loop-variable
invariant-loop-variable l = l.all.items ≡ l.initial.all.items ++ param_namings (take l.variable-index l.params)
