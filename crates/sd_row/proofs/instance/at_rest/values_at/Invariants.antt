use Rattle.std.proofs.Common.{◌≡◌, map, take}
use Rattle.sd_num.specs.Wrapped.{wrapped}
use Rattle.sd_range.specs.Affine.{variable_value}
use Rattle.sd_tcode.specs.columns.Columns.{value_on}
use Rattle.sd_row.proofs.instance.at_rest.values_at.Given as goal

-- the values so far
abbrev pub invariant-loop-variable : goal.invariant-loop-variable
invariant-loop-variable l =
    map (λ variable. wrapped (variable_value l.values.values variable)) (take l.variable-index l.variables) ≡ map (λ numbers. value_on numbers 0) l.numbers.items
