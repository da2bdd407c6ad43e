use Rattle.std.proofs.Common.{◌≡◌, drop}
use Rattle.std.specs.List.{list_all}
use Rattle.sd_validity.specs.rules.Places.{param_numbers}
use Rattle.sd_validity.specs.rules.NamesInForce as names
use Rattle.sd_rules.proofs.names.are_behind_symbols.Given as goal

-- those left are no size symbols where all are none
abbrev pub invariant-loop-variable : goal.invariant-loop-variable
invariant-loop-variable l = list_all (names.is_no_symbol l.symbols) (param_numbers (drop l.variable-index l.params)) ≡ list_all (names.is_no_symbol l.symbols) (param_numbers l.params)
