use Rattle.std.proofs.Common.{◌≡◌, drop}
use Rattle.std.specs.List.{list_all}
use Rattle.sd_places.specs.places.PlaceOf.{place_of}
use Rattle.sd_validity.specs.rules.NamesInForce as names
use Rattle.sd_rules.proofs.names.are_variables_in_force.Given as goal

-- those left are in force where all are
abbrev pub invariant-loop-variable : goal.invariant-loop-variable
invariant-loop-variable l = list_all (names.is_variable_in_force (place_of l.place)) (drop l.variable-index l.variables) ≡ list_all (names.is_variable_in_force (place_of l.place)) l.variables
