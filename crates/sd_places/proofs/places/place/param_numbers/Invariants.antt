use Rattle.std.proofs.Common.{◌≡◌, take}
use Rattle.sd_validity.specs.rules.Places.{param_numbers}
use Rattle.sd_places.proofs.places.place.param_numbers.Given as goal

-- the variables so far
abbrev pub invariant-loop-variable : goal.invariant-loop-variable
invariant-loop-variable l = l.numbers.items ≡ param_numbers (take l.variable-index l.params)
